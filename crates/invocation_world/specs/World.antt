-- The world of invocations.
use Rattle.std.specs.Prelude.{◌≡◌, ◌≢◌, ℕ, ℤ, pos, ◌+ℤ◌, ◌≤ℤ◌, ◌<ℤ◌, ◌<◌, ◌≤◌, true, List, [], ◌∷◌, ◌++◌, All, AllPairs, Option, None, length, unwrap_or}
use Rattle.std.specs.Option.{IsSomeAnd}
use Rattle.names_realms.specs.declared.pairs.Pair.{Pair}
use Rattle.names_realms.specs.declared.states.State.{State}
use Rattle.names_realms.specs.declared.states.State.TheVariants.{Active, Finalizing, Finalized}
use Rattle.names_realms.specs.Names.{IsInvocationId}
use Rattle.names_realms.specs.Pairs.{IsPairKey, IsPairValue}
use Rattle.names_realms.specs.Realms.{IsRealm}
use Rattle.policy_checks.specs.Checks.{is_name}
use Rattle.inclusion_graph.specs.declared.edge.Edge.{Edge}
use Rattle.finaliser.specs.Settling as finaliser
use Rattle.invocations.specs.declared.invocation.Invocation.{Invocation}
use Rattle.invocations.specs.Rows.{IsInState, IsTable, states_of}

-- The invocations in order of creation; their inclusions in order of arrival, each an edge from the
-- place of the including row to that of the included one; and the moment of the last change.
pub record World : Type 0 where
  pub invocations : List Invocation
  pub inclusions : List Edge
  pub last : ℤ

abbrev pub empty_world : World
empty_world = record { invocations = []; inclusions = []; last = pos 0 }

-- two days, in microseconds
abbrev pub default_lifetime : ℤ
default_lifetime = pos 172_800_000_000

-- A new invocation is active, and its deadline is two days away where the request gives none.
abbrev pub new_row : ℤ → List ℕ → List ℕ → List ℕ → Option ℤ → List Pair → Invocation
new_row moment creator id realm deadline tags = record {
  id = id;
  realm = realm;
  creator = creator;
  created = moment;
  deadline = unwrap_or deadline (moment +ℤ default_lifetime);
  started = None;
  finished = None;
  state = Active;
  tags = tags;
}

-- the world with one more row, which was made at its create time, and includes nothing yet
abbrev pub with_row : World → Invocation → World
with_row w row = record {
  invocations = w.invocations ++ row ∷ [];
  inclusions = w.inclusions;
  last = row.created;
}

-- The row at this place reaches an active one by a walk of inclusions, which may be the walk of the
-- row alone.
abbrev pub ReachesActive : World → ℕ → Type 0
ReachesActive w place = finaliser.ReachesActive w.inclusions (states_of w.invocations) place

-- 9999-01-01T00:00:00Z
abbrev pub latest_call : ℤ
latest_call = pos 253_370_764_800_000_000

-- five days after it
abbrev pub latest_deadline : ℤ
latest_deadline = pos 253_371_196_800_000_000

-- A moment from 1970 to this one.
abbrev pub IsUntil : ℤ → ℤ → Type 0
IsUntil last t = (pos 0 ≤ℤ t) × (t ≤ℤ last)

-- A moment that a call may have.
abbrev pub IsCallMoment : ℤ → Type 0
IsCallMoment t = IsUntil latest_call t

-- A key and a value, each in its grammar.
abbrev pub IsPair : Pair → Type 0
IsPair p = IsPairKey p.key × IsPairValue p.value

-- An active row has its deadline still before it, and no start and no end of its finalization; a
-- finalizing one has the start alone; a final one has both. Each lies between 1970 and the last
-- change.
abbrev pub IsStage : ℤ → State → ℤ → Option ℤ → Option ℤ → Type 0
IsStage last Active deadline started finished =
    (last <ℤ deadline) × (started ≡ None) × (finished ≡ None)
IsStage last Finalizing deadline started finished =
    IsSomeAnd started (IsUntil last) × (finished ≡ None)
IsStage last Finalized deadline started finished =
    IsSomeAnd started (IsUntil last) × IsSomeAnd finished (IsUntil last)

-- What is so of a row whose world changed last at this moment.
pub record IsRow (last : ℤ) (row : Invocation) : Type 0 where
  pub id : IsInvocationId row.id
  pub realm : IsRealm row.realm
  pub creator : is_name row.creator ≡ true
  pub created : IsUntil last row.created
  pub deadline : IsUntil latest_deadline row.deadline
  pub stage : IsStage last row.state row.deadline row.started row.finished
  pub tags : All IsPair row.tags

-- An inclusion joins two different ones of this many rows.
abbrev pub IsInclusion : ℕ → Edge → Type 0
IsInclusion count edge = (edge.from < count) × (edge.to < count) × (edge.from ≢ edge.to)

-- What is so of the world between two steps.
pub record IsValid (w : World) : Type 0 where
  pub table : IsTable w.invocations
  pub last : IsCallMoment w.last
  pub rows : All (IsRow w.last) w.invocations
  pub joined : All (IsInclusion (length w.invocations)) w.inclusions
  pub once : AllPairs (λ a b. a ≢ b) w.inclusions
  pub few : length w.inclusions ≤ 262_144
  pub waiting : (place : ℕ) → IsInState Finalizing w.invocations place → ReachesActive w place
  pub ended : (place : ℕ) → IsInState Finalized w.invocations place → ¬ ReachesActive w place
