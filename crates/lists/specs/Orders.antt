-- Lists that are kept in order, and what goes into them and out of them.
use Rattle.std.specs.Prelude.{◌≡◌, ◌≢◌, ◌⊎◌, ◌↔◌, ◌<◌, ◌≤◌, ℕ, List, [], ◌∷◌, Result, MatchResult, length, Contains}
use Rattle.std.specs.List.{AllByRecursion, HoldsAt}
use Rattle.std.specs.List.Sorted.{IsPartitionPoint}
use Rattle.std.specs.declared.cmp.Ordering.{Ordering}
use Rattle.std.specs.declared.cmp.Ordering.TheVariants.{Less, Equal, Greater}

-- each value is below all that stand behind it
abbrev pub IsRising : {X : Type 0} → (X → X → Ordering) → List X → Type 0
IsRising order [] = Unit {0}
IsRising order (x ∷ xs) = AllByRecursion (λ y. order x y ≡ Less) xs × IsRising order xs

-- the place of a value that is sought, or the place where it would go
abbrev pub IsSlot : {X : Type 0} → (X → Ordering) → List X → Result ℕ ℕ → Type 0
IsSlot order xs found =
    MatchResult found (λ i. (i < length xs) × HoldsAt (λ y. order y ≡ Equal) xs i)
    (λ i. (i ≤ length xs) × IsPartitionPoint (λ y. order y ≡ Less) (λ y. order y ≡ Greater) xs i)

-- the new list has what the old one has, and this value
abbrev pub HasOneMore : {X : Type 0} → List X → X → List X → Type 0
HasOneMore {X} old x new = (y : X) → Contains new y ↔ (Contains old y ⊎ (y ≡ x))

-- the new list has what the old one has, but this value
abbrev pub HasOneFewer : {X : Type 0} → List X → X → List X → Type 0
HasOneFewer {X} old x new = (y : X) → Contains new y ↔ (Contains old y × (y ≢ x))
