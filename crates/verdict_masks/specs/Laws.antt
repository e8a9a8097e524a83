-- Laws of masks.
use Rattle.std.specs.Prelude.{◌≡◌, ℕ, List}
use Rattle.test_results.specs.declared.result.TestResult.{TestResult}
use Rattle.verdict_masks.specs.declared.shown.ShownResult.{ShownResult}
use Rattle.verdict_masks.specs.Cuts.{IsCut}
use Rattle.verdict_masks.specs.Masks.{DifferHidden, IsMasked, seen}

-- A text has one cut at most.
abbrev pub OneCut : Type 0
OneCut = (text one other : List ℕ) → IsCut text one → IsCut text other → one ≡ other

-- Each text has one.
abbrev pub HasCut : Type 0
HasCut = (text : List ℕ) → (cut : List ℕ) × IsCut text cut

-- Two rows that differ in nothing but what is hidden are seen alike where they are masked.
abbrev pub HiddenUnseen : Type 0
HiddenUnseen =
    (one other : TestResult) (shown also : ShownResult) → DifferHidden one other
    → IsMasked one shown → IsMasked other also → seen shown ≡ seen also
