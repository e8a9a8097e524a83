-- Which of several comes first.
use Rattle.std.specs.Prelude.{◌≡◌, ◌⊎◌, List, [], ◌∷◌, Option, Some, None}
use Rattle.call_forms.specs.declared.forms.Refusal.{Refusal}

-- The first of these of which it holds, if it holds of any.
abbrev pub FirstOf : {A : Type 0} → (A → Type 0) → List A → Option A → Type 0
FirstOf Holds [] found = found ≡ None
FirstOf Holds (x ∷ xs) found =
    (Holds x × (found ≡ Some x)) ⊎ ((¬ Holds x) × FirstOf Holds xs found)

-- A rule isn't broken.
abbrev pub IsUnbroken : (Refusal → Type 0) → Type 0
IsUnbroken Breaks = (r : Refusal) → ¬ Breaks r

-- Of these rules the first that is broken is refused, if any is.
abbrev pub Judges : {K : Type 0} → (K → Refusal → Type 0) → List K → Option Refusal → Type 0
Judges Breaks [] found = found ≡ None
Judges Breaks (rule ∷ rules) found =
    ((r : Refusal) × Breaks rule r × (found ≡ Some r))
    ⊎ (IsUnbroken (Breaks rule) × Judges Breaks rules found)
