-- Laws of what a caller sees.
use Rattle.std.specs.Prelude.{◌≡◌, ℕ, List, None, Some, slice_get}
use Rattle.std.specs.List.{AllZip, flat_map}
use Rattle.policy_tables.specs.declared.tables.PolicyTables.{PolicyTables}
use Rattle.test_results.specs.declared.result.TestResult.{TestResult}
use Rattle.verdict_lists.specs.declared.verdict.Verdict.{Verdict}
use Rattle.verdict_lists.specs.Listing.{AreListed}
use Rattle.verdict_lists.specs.Verdicts.{AreVerdicts}
use Rattle.verdict_lists.specs.World.{World, AreRoots, IsKept}
use Rattle.query_pages.specs.declared.queries.ResultQuery.{ResultQuery}
use Rattle.query_pages.specs.declared.queries.VerdictQuery.{VerdictQuery}
use Rattle.query_pages.specs.Followed.{AreFollowed, AreRowsFollowed}
use Rattle.query_pages.specs.Pages.{IsResultPage, IsVerdictPage}
use Rattle.query_pages.specs.Seen.{SeenHeld, SeenRows, SeenVerdicts}
use Rattle.query_pages.specs.Shown.{IsShownResult, IsShownVerdict}
use Rattle.query_pages.specs.Unseen.{DifferUnseen}

-- A caller sees one page at most of a query, and one result at most at a place.
abbrev pub OneVerdictPage : Type 0
OneVerdictPage =
    (world : World) (policy : PolicyTables) (caller : ℕ) (query : VerdictQuery)
    (one other : SeenVerdicts)
    → IsVerdictPage world policy caller query one → IsVerdictPage world policy caller query other
    → one ≡ other

abbrev pub OneResultPage : Type 0
OneResultPage =
    (world : World) (policy : PolicyTables) (caller : ℕ) (query : ResultQuery)
    (one other : SeenRows)
    → IsResultPage world policy caller query one → IsResultPage world policy caller query other
    → one ≡ other

abbrev pub OneShownResult : Type 0
OneShownResult =
    (world : World) (policy : PolicyTables) (caller place : ℕ) (one other : SeenHeld)
    → IsShownResult world policy caller place one → IsShownResult world policy caller place other
    → one ≡ other

-- There is a page of each query over each world, and what is seen of each result.
abbrev pub HasVerdictPage : Type 0
HasVerdictPage =
    (world : World) (policy : PolicyTables) (caller : ℕ) (query : VerdictQuery)
    → (page : SeenVerdicts) × IsVerdictPage world policy caller query page

abbrev pub HasResultPage : Type 0
HasResultPage =
    (world : World) (policy : PolicyTables) (caller : ℕ) (query : ResultQuery)
    → (page : SeenRows) × IsResultPage world policy caller query page

abbrev pub HasShownResult : Type 0
HasShownResult =
    (world : World) (policy : PolicyTables) (caller place : ℕ) (row : TestResult)
    → slice_get world.results place ≡ Some row
    → (held : SeenHeld) × IsShownResult world policy caller place held

-- Where two worlds differ in nothing that a caller may see, the caller sees the same of both.
abbrev pub VerdictPagesUnseen : Type 0
VerdictPagesUnseen =
    (one other : World) (policy : PolicyTables) (caller : ℕ) (query : VerdictQuery)
    (page also : SeenVerdicts) → DifferUnseen policy caller one other
    → IsVerdictPage one policy caller query page → IsVerdictPage other policy caller query also
    → page ≡ also

abbrev pub ResultPagesUnseen : Type 0
ResultPagesUnseen =
    (one other : World) (policy : PolicyTables) (caller : ℕ) (query : ResultQuery)
    (page also : SeenRows) → DifferUnseen policy caller one other
    → IsResultPage one policy caller query page → IsResultPage other policy caller query also
    → page ≡ also

abbrev pub ResultsUnseen : Type 0
ResultsUnseen =
    (one other : World) (policy : PolicyTables) (caller place : ℕ) (held also : SeenHeld)
    → DifferUnseen policy caller one other
    → IsShownResult one policy caller place held → IsShownResult other policy caller place also
    → held ≡ also

-- Pages that are followed from the start of a list to its end show all of it, each row once and in
-- order.
abbrev pub PagesShowVerdicts : Type 0
PagesShowVerdicts =
    (world : World) (policy : PolicyTables) (caller : ℕ) (query : VerdictQuery)
    (list : List Verdict) (pages : List SeenVerdicts)
    → AreVerdicts world query.roots list → query.after ≡ None
    → AreFollowed world policy caller query pages
    → AllZip (IsShownVerdict world policy caller query.results)
    list (flat_map (λ (page : SeenVerdicts). page.verdicts) pages)

abbrev pub PagesShowResults : Type 0
PagesShowResults =
    (world : World) (policy : PolicyTables) (caller : ℕ) (query : ResultQuery)
    (list : List ℕ) (pages : List SeenRows) → IsKept world → AreRoots world query.roots
    → AreListed world query.roots list → query.after ≡ None
    → AreRowsFollowed world policy caller query pages
    → AllZip (IsShownResult world policy caller)
    list (flat_map (λ (page : SeenRows). page.rows) pages)
