-- Deadlines that have come are carried out.
use Rattle.std.specs.Prelude.{◌≡◌, ℤ, ◌≤ℤ◌, Bool, true, false, ◌&&◌, if◌then◌else◌, List, [], ◌∷◌, All, Any, map}
use Rattle.std.specs.Ordering.{int_eq}
use Rattle.names_realms.specs.declared.states.State.{State}
use Rattle.names_realms.specs.declared.states.State.TheVariants.{Active, Finalizing, Finalized}
use Rattle.inclusion_graph.specs.declared.edge.Edge.{Edge}
use Rattle.invocations.specs.declared.invocation.Invocation.{Invocation}
use Rattle.invocations.specs.Due.{IsDue}
use Rattle.invocations.specs.Rows.{begun}
use Rattle.invocation_world.specs.World.{World}
use Rattle.invocation_world.specs.Settling.{SettlesRows}

-- No row is due at this moment.
abbrev pub AreQuiet : List Invocation → ℤ → Type 0
AreQuiet rows moment = All (λ row. ¬ IsDue moment row) rows

-- Some row is due at this moment: it is active, and its deadline is that moment or an earlier one.
abbrev pub IsDueAt : World → ℤ → Type 0
IsDueAt w moment = Any (IsDue moment) w.invocations

-- Nothing is due at this moment.
abbrev pub IsQuiet : World → ℤ → Type 0
IsQuiet w moment = AreQuiet w.invocations moment

-- The moment d is the least deadline of the rows that are due.
pub record IsLeast (rows : List Invocation) (moment d : ℤ) : Type 0 where
  pub due : Any (λ row. IsDue moment row × (row.deadline ≡ d)) rows
  pub least : All (λ row. IsDue moment row → d ≤ℤ row.deadline) rows

abbrev pub IsLeastDue : World → ℤ → ℤ → Type 0
IsLeastDue w moment d = IsLeast w.invocations moment d

abbrev pub is_active : State → Bool
is_active Active = true
is_active Finalizing = false
is_active Finalized = false

-- the row with its finalization begun at this deadline, if it is active and has it
abbrev pub begun_if_due : ℤ → Invocation → Invocation
begun_if_due d row = if is_active row.state && int_eq row.deadline d then begun d row else row

-- all active rows with this deadline begun at it
abbrev pub all_begun : ℤ → List Invocation → List Invocation
all_begun d rows = map (begun_if_due d) rows

-- These deadlines are carried out one after the other, each the least of those that are due, until
-- nothing is due: all rows that have it are begun at it, and then the rows settle at it.
abbrev pub CarriesOut : List Edge → ℤ → List Invocation → List ℤ → List Invocation → Type 0
CarriesOut inclusions moment rows [] after = AreQuiet rows moment × (after ≡ rows)
CarriesOut inclusions moment rows (d ∷ later) after =
    IsLeast rows moment d
    × ((between : List Invocation) × SettlesRows d inclusions (all_begun d rows) between
    × CarriesOut inclusions moment between later after)

-- the world with these rows after these deadlines were carried out: the last change is the moment,
-- where there were any
abbrev pub after_deadlines : ℤ → List ℤ → List Invocation → World → World
after_deadlines moment [] rows w = w
after_deadlines moment (d ∷ later) rows w = record {
  invocations = rows;
  inclusions = w.inclusions;
  last = moment;
}

-- What is due at this moment is carried out in the world w, which gives the world after.
pub record Advances (w : World) (moment : ℤ) (after : World) : Type 0 where
  pub deadlines : List ℤ
  pub rows : List Invocation
  pub carried : CarriesOut w.inclusions moment w.invocations deadlines rows
  pub after_is : after ≡ after_deadlines moment deadlines rows w
