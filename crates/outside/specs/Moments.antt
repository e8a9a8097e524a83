-- What a clock over a list of moments answers.
use Rattle.std.specs.Prelude.{◌≡◌, ℤ, pos, ◌+ℤ◌, int_le, if◌then◌else◌, List, [], ◌∷◌}

-- The moments that are still to be answered after one answer. The last one stays.
abbrev pub moments_after : List ℤ → List ℤ
moments_after [] = []
moments_after (last ∷ []) = last ∷ []
moments_after (first ∷ second ∷ others) = second ∷ others

-- The answers are the moments in turn, and then the last one for ever.
abbrev pub AreInTurn : List ℤ → List ℤ → Type 0
AreInTurn moments [] = Unit {0}
AreInTurn [] (answer ∷ answers) = ⊥
AreInTurn (moment ∷ others) (answer ∷ answers) =
    (answer ≡ moment) × AreInTurn (moments_after (moment ∷ others)) answers

-- What a clock that goes by steps answers next, and by how much it goes on.
pub record Steps : Type 0 where
  pub present : ℤ
  pub step : ℤ

-- It goes on by the step, but not past the greatest number of 64 bits.
abbrev pub next_moment : ℤ → ℤ
next_moment sum =
    if int_le sum (pos 9_223_372_036_854_775_807) then sum else pos 9_223_372_036_854_775_807

abbrev pub stepped : Steps → Steps
stepped s = record { present = next_moment (s.present +ℤ s.step); step = s.step }

-- The answers are a first moment, and each a step more than the one before.
abbrev pub AreSteps : Steps → List ℤ → Type 0
AreSteps s [] = Unit {0}
AreSteps s (answer ∷ answers) = (answer ≡ s.present) × AreSteps (stepped s) answers
