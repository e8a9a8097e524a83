-- A history is a list of entries, each with the number of the seat that made it.
use Rattle.std.specs.Prelude.{◌≡◌, ℕ, ◌+◌, ◌≤◌, ◌==◌, List, [], ◌∷◌, ◌++◌, if◌then◌else◌}

-- how often the number stands in the list
abbrev pub times : ℕ → List ℕ → ℕ
times n [] = 0
times n (m ∷ ms) = (if n == m then 1 else 0) + times n ms

-- none of the entries has one of these numbers
abbrev pub NoneOf : {E : Type 0} → (E → ℕ) → List ℕ → List E → Type 0
NoneOf by numbers [] = Unit {0}
NoneOf by numbers (e ∷ es) = (times (by e) numbers ≡ 0) × NoneOf by numbers es

-- the history begins with what was seen, and the rest of it has none of these numbers
abbrev pub Begins : {E : Type 0} → (E → ℕ) → List ℕ → List E → List E → Type 0
Begins {E} by numbers log seen =
    (others : List E) × (log ≡ seen ++ others) × NoneOf by numbers others

-- each of the entries has this number or a lower one
abbrev pub AtMost : {E : Type 0} → (E → ℕ) → ℕ → List E → Type 0
AtMost by n [] = Unit {0}
AtMost by n (e ∷ es) = (by e ≤ n) × AtMost by n es
