-- Laws of what is found in rows.
use Rattle.std.specs.Prelude.{◌≡◌, ℕ, ℤ, List, Option, MatchOption}
use Rattle.invocations.specs.declared.invocation.Invocation.{Invocation}
use Rattle.invocations.specs.Due.{IsNextPlace}
use Rattle.invocations.specs.Rows.{HasId, HasUniqueIds, IsPlaceOf}

-- Where no two rows have the same id, each id has one answer: its place, or none.
abbrev pub FindsOnePlace : Type 0
FindsOnePlace =
    (rows : List Invocation) (id : List ℕ) (a b : Option ℕ) → HasUniqueIds rows
    → MatchOption a (¬ HasId rows id) (IsPlaceOf rows id)
    → MatchOption b (¬ HasId rows id) (IsPlaceOf rows id)
    → a ≡ b

-- So has each moment: the place of the row that is due next, or none.
abbrev pub HasOneNext : Type 0
HasOneNext =
    (rows : List Invocation) (moment : ℤ) (a b : Option ℕ)
    → IsNextPlace rows moment a → IsNextPlace rows moment b → a ≡ b
