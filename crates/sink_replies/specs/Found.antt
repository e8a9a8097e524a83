-- The code's own word, which private contracts alone cite: what a head has under a name.
use Rattle.std.specs.Prelude.{◌≡◌, ◌≤◌, ℕ, List, [], ◌∷◌, length}
use Rattle.sink_replies.specs.declared.lengths.Found.{Found}
use Rattle.sink_replies.specs.declared.lengths.Found.TheVariants.{Absent, Once, Again}

-- no value, this one alone, or two or more
abbrev pub IsFound : Found → List (List ℕ) → Type 0
IsFound Absent values = values ≡ []
IsFound (Once value) values = values ≡ value.now ∷ []
IsFound Again values = 2 ≤ length values
