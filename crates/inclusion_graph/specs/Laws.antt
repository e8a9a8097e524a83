-- What the targets that are new are, beside those that a node holds.
use Rattle.std.specs.Prelude.{◌≡◌, ◌≢◌, ◌↔◌, ◌<◌, ℕ, List, Some, slice_get, Contains}
use Rattle.inclusion_graph.specs.Edges.{fresh}

-- The number stands at this place of the list, and at no place before.
abbrev pub IsFirstPlace : List ℕ → ℕ → ℕ → Type 0
IsFirstPlace numbers n place =
    (slice_get numbers place ≡ Some n)
    × ((before : ℕ) → before < place → slice_get numbers before ≢ Some n)

-- The new ones are exactly those targets that aren't held. None stands twice. They stand in the
-- order of their first places among the targets.
pub record AreNew (held targets new : List ℕ) : Type 0 where
  pub all : (n : ℕ) → Contains new n ↔ (Contains targets n × (¬ Contains held n))
  pub once : (i j n : ℕ) → slice_get new i ≡ Some n → slice_get new j ≡ Some n → i ≡ j
  pub order : (i j m n p q : ℕ) → i < j → slice_get new i ≡ Some m → slice_get new j ≡ Some n
      → IsFirstPlace targets m p → IsFirstPlace targets n q → p < q

-- The fresh ones are these.
abbrev pub FreshAreNew : Type 0
FreshAreNew = (held targets : List ℕ) → AreNew held targets (fresh held targets)

-- One list has them.
abbrev pub NewAreOneList : Type 0
NewAreOneList =
    (held targets one other : List ℕ) → AreNew held targets one → AreNew held targets other
    → one ≡ other
