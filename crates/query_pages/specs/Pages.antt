-- Pages of what a caller may see.
use Rattle.std.specs.Prelude.{◌≡◌, ℕ, List, Option, Some, None, if◌then◌else◌, option_map}
use Rattle.std.specs.List.{AllZip}
use Rattle.policy_tables.specs.declared.tables.PolicyTables.{PolicyTables}
use Rattle.verdict_lists.specs.declared.verdict.Verdict.{Verdict}
use Rattle.verdict_lists.specs.Listing.{AreListed}
use Rattle.verdict_lists.specs.Verdicts.{AreVerdicts}
use Rattle.verdict_lists.specs.World.{World}
use Rattle.verdict_pages.specs.Keys.{ResultPlace, VerdictPlace, by_result, by_verdict, more_results, more_verdicts, result_place, result_rows, verdict_place, verdict_rows}
use Rattle.verdict_pages.specs.Pages.{next_key}
use Rattle.query_pages.specs.declared.queries.ResultQuery.{ResultQuery}
use Rattle.query_pages.specs.declared.queries.VerdictQuery.{VerdictQuery}
use Rattle.query_pages.specs.Seen.{SeenRows, SeenVerdicts}
use Rattle.query_pages.specs.Shown.{IsShownResult, IsShownVerdict}
use Rattle.query_pages.specs.Tokens.{IsReadAs, IsResultReadAs, result_held, result_token, verdict_held, verdict_token}

-- where a page begins
abbrev pub after_verdict : VerdictQuery → Option VerdictPlace
after_verdict query = option_map verdict_held query.after

abbrev pub after_result : ResultQuery → Option ResultPlace
after_result query = option_map result_held query.after

-- The page of a query, of the list of verdicts over all that is reached from its roots: each of its
-- verdicts as the caller may see it, and the token of the last one exactly where more are left.
pub record IsVerdictPage (world : World) (policy : PolicyTables) (caller : ℕ)
    (query : VerdictQuery) (page : SeenVerdicts) : Type 0 where
  pub list : List Verdict
  pub are : AreVerdicts world query.roots list
  pub verdicts : AllZip (IsShownVerdict world policy caller query.results)
      (verdict_rows world list (after_verdict query) query.size) page.verdicts
  pub next : page.next
      ≡ (if more_verdicts world list (after_verdict query) query.size
      then option_map (verdict_token query.query)
      (next_key by_verdict (verdict_place world) list (after_verdict query) query.size)
      else None)

-- The page of a query, of the list of all reached results.
pub record IsResultPage (world : World) (policy : PolicyTables) (caller : ℕ)
    (query : ResultQuery) (page : SeenRows) : Type 0 where
  pub list : List ℕ
  pub are : AreListed world query.roots list
  pub rows : AllZip (IsShownResult world policy caller)
      (result_rows world list (after_result query) query.size) page.rows
  pub next : page.next
      ≡ (if more_results world list (after_result query) query.size
      then option_map (result_token query.query)
      (next_key by_result (result_place world) list (after_result query) query.size)
      else None)

-- The token of a page is read as the key from which the page behind it goes on.
abbrev pub VerdictsGoOn : World → VerdictQuery → SeenVerdicts → Type 0
VerdictsGoOn world query page =
    (list : List Verdict) (place : VerdictPlace) (text : List ℕ)
    → AreVerdicts world query.roots list → page.next ≡ Some text
    → next_key by_verdict (verdict_place world) list (after_verdict query) query.size ≡ Some place
    → IsReadAs query.query place text

abbrev pub ResultsGoOn : World → ResultQuery → SeenRows → Type 0
ResultsGoOn world query page =
    (list : List ℕ) (place : ResultPlace) (text : List ℕ)
    → AreListed world query.roots list → page.next ≡ Some text
    → next_key by_result (result_place world) list (after_result query) query.size ≡ Some place
    → IsResultReadAs query.query place text
