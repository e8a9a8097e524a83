-- Deadlines that have come.
use Rattle.std.specs.Prelude.{◌≡◌, ℕ, ℤ, ◌≤ℤ◌, ◌<ℤ◌, List, Option, Some, MatchOption, take, slice_get, All}
use Rattle.names_realms.specs.declared.states.State.TheVariants.{Active}
use Rattle.invocations.specs.declared.invocation.Invocation.{Invocation}

-- A row is due at a moment: it is active, and its deadline is that moment or an earlier one.
abbrev pub IsDue : ℤ → Invocation → Type 0
IsDue moment row = (row.state ≡ Active) × (row.deadline ≤ℤ moment)

-- The row at this place is due, no due row has an earlier deadline, and no due row before it has
-- the same one.
pub record IsNextDue (rows : List Invocation) (moment : ℤ) (place : ℕ)
    (row : Invocation) : Type 0 where
  pub stands : slice_get rows place ≡ Some row
  pub due : IsDue moment row
  pub least : All (λ other. IsDue moment other → row.deadline ≤ℤ other.deadline) rows
  pub first : All (λ other. IsDue moment other → row.deadline <ℤ other.deadline) (take place rows)

-- The place of the next row that is due, or none where no row is due.
abbrev pub IsNextPlace : List Invocation → ℤ → Option ℕ → Type 0
IsNextPlace rows moment found =
    MatchOption found (All (λ row. ¬ IsDue moment row) rows)
    (λ place. (row : Invocation) × IsNextDue rows moment place row)
