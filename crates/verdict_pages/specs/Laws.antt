-- Laws of pages.
use Rattle.std.specs.Prelude.{◌≡◌, ◌<◌, ℕ, true, List, All, None}
use Rattle.std.specs.declared.cmp.Ordering.{Ordering}
use Rattle.verdict_lists.specs.declared.verdict.Verdict.{Verdict}
use Rattle.verdict_lists.specs.World.{World, AreRoots, IsKept}
use Rattle.lists.specs.Orders.{IsRising}
use Rattle.verdict_lists.specs.Listing.{AreListed}
use Rattle.verdict_lists.specs.Verdicts.{AreVerdicts}
use Rattle.verdict_pages.specs.Keys.{KeysRise, ResultKeysRise, ResultPlace, VerdictPlace, by_result, by_verdict, result_place, verdict_place}
use Rattle.verdict_pages.specs.Pages.{comes_to_end, pages}

-- Pages of any sizes, each asked with the key of the last row before it and followed to the end
-- over a list whose keys rise, are together that list, each row once and in order.
abbrev pub PagesAreList : (X K : Type 0) → (K → K → Ordering) → (X → K) → Type 0
PagesAreList X K order key =
    (list : List X) (sizes : List ℕ) → IsRising (λ a b. order (key a) (key b)) list
    → All (λ size. 0 < size) sizes → comes_to_end order key list None sizes ≡ true
    → pages order key list None sizes ≡ list

-- So are pages of verdicts, whose keys rise in each list of a world.
abbrev pub VerdictPagesAreList : Type 0
VerdictPagesAreList =
    (world : World) → PagesAreList Verdict VerdictPlace by_verdict (verdict_place world)

abbrev pub VerdictKeysRise : Type 0
VerdictKeysRise =
    (world : World) (roots : List ℕ) (list : List Verdict) → AreVerdicts world roots list
    → KeysRise world list

-- So are pages of results, whose keys rise in the list of a world whose rows are kept in tables.
abbrev pub ResultPagesAreList : Type 0
ResultPagesAreList =
    (world : World) → PagesAreList ℕ ResultPlace by_result (result_place world)

abbrev pub ResultsRise : Type 0
ResultsRise =
    (world : World) (roots list : List ℕ) → IsKept world → AreRoots world roots
    → AreListed world roots list → ResultKeysRise world list
