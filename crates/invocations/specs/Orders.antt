-- The code's own words for lists that are kept in order.
use Rattle.std.specs.Prelude.{◌≡◌, ◌↔◌, ◌≤◌, ℕ, ℤ, List, Option, Some, None, length, map, slice_get, Contains}
use Rattle.std.specs.Ordering.{nat_cmp, int_cmp, ordering_then}
use Rattle.std.specs.declared.cmp.Ordering.{Ordering}
use Rattle.lists.specs.Orders.{IsRising, HasOneMore, HasOneFewer}
use Rattle.hash_chains.specs.Chains.{ChainsState}
use Rattle.names_realms.specs.declared.states.State.{State}
use Rattle.names_realms.specs.declared.states.State.TheVariants.{Active, Finalizing, Finalized}
use Rattle.invocations.specs.declared.due.Due.{Due}
use Rattle.invocations.specs.declared.invocation.Invocation.{Invocation}
use Rattle.invocations.specs.Hashes.{IsHashed}
use Rattle.invocations.specs.Rows.{IsTable}

abbrev pub due_order : Due → Due → Ordering
due_order a b = ordering_then (int_cmp a.deadline b.deadline) (nat_cmp a.place b.place)

-- the new list has this value in place of that one
pub record HasReplaced (old : List Due) (due to : Due) (new : List Due) : Type 0 where
  pub rising : IsRising due_order new
  pub between : List Due
  pub fewer : HasOneFewer old due between
  pub more : HasOneMore between to new

abbrev pub deadline_in : State → ℤ → Option ℤ
deadline_in Active deadline = Some deadline
deadline_in Finalizing deadline = None
deadline_in Finalized deadline = None

-- the deadlines of the rows that are active
abbrev pub deadlines_of : List Invocation → List (Option ℤ)
deadlines_of rows = map (λ row. deadline_in row.state row.deadline) rows

-- all deadlines with their places, in order
pub record IsDueIndex (deadlines : List (Option ℤ)) (entries : List Due) : Type 0 where
  pub rising : IsRising due_order entries
  pub all : (due : Due)
      → Contains entries due ↔ (slice_get deadlines due.place ≡ Some (Some due.deadline))
  pub few : length entries ≤ length deadlines

-- the place of the row whose deadline stands at a place in the order
abbrev pub place_in : Option Due → Option ℕ
place_in None = None
place_in (Some due) = Some due.place

abbrev pub place_at : List Due → ℕ → Option ℕ
place_at entries place = place_in (slice_get entries place)

-- the place of the active row before which so many are due, where all deadlines are put in order,
-- those that are equal in the order of the rows
abbrev pub IsInTurn : List Invocation → ℕ → Option ℕ → Type 0
IsInTurn rows turn found =
    (entries : List Due) × IsDueIndex (deadlines_of rows) entries × (found ≡ place_at entries turn)

-- rows with the chains of their ids and with the index of deadlines
pub record IsIndexed (rows : List Invocation) (chains : ChainsState) (entries : List Due)
    : Type 0 where
  pub table : IsTable rows
  pub ids : IsHashed rows chains
  pub due : IsDueIndex (deadlines_of rows) entries
