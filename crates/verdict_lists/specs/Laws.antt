-- Laws of lists of verdicts and of results.
use Rattle.std.specs.Prelude.{◌≡◌, ℕ, List}
use Rattle.verdict_lists.specs.declared.verdict.Verdict.{Verdict}
use Rattle.verdict_lists.specs.World.{World}
use Rattle.verdict_lists.specs.Listing.{AreListed}
use Rattle.verdict_lists.specs.Verdicts.{AreVerdicts}

-- A world has one list of verdicts at most, from some roots.
abbrev pub OneList : Type 0
OneList =
    (world : World) (roots : List ℕ) (one other : List Verdict)
    → AreVerdicts world roots one → AreVerdicts world roots other → one ≡ other

-- Each world has one, from any roots.
abbrev pub HasList : Type 0
HasList = (world : World) (roots : List ℕ) → (list : List Verdict) × AreVerdicts world roots list

-- A world has one list of results at most, from some roots.
abbrev pub OneListing : Type 0
OneListing =
    (world : World) (roots one other : List ℕ)
    → AreListed world roots one → AreListed world roots other → one ≡ other

-- Each world has one, from any roots.
abbrev pub HasListing : Type 0
HasListing = (world : World) (roots : List ℕ) → (places : List ℕ) × AreListed world roots places
