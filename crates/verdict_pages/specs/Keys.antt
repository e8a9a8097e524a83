-- The keys of verdicts and of results in pages.
use Rattle.std.specs.Prelude.{ℕ, Bool, List, Option, Some}
use Rattle.std.specs.Ordering.{nat_cmp, ordering_then}
use Rattle.std.specs.Cmp.Lexicographic.{slice_cmp}
use Rattle.std.specs.declared.cmp.Ordering.{Ordering}
use Rattle.verdict_lists.specs.declared.verdict.Verdict.{Verdict}
use Rattle.verdict_lists.specs.World.{World}
use Rattle.lists.specs.Orders.{IsRising}
use Rattle.verdict_lists.specs.Orders.{result_key_at}
use Rattle.verdict_lists.specs.Statuses.{status_number}
use Rattle.verdict_lists.specs.Verdicts.{verdict_key as key_of_results}
use Rattle.verdict_pages.specs.Pages.{behind, has_more, page_rows}
use Rattle.verdict_pages.specs.declared.keys.ResultKey.{ResultKey}
use Rattle.verdict_pages.specs.declared.keys.VerdictKey.{VerdictKey}

-- Where a verdict stands: the number of its status, its test, the label of its variant, and its
-- ordinal. None of it is restricted.
pub record VerdictPlace : Type 0 where
  pub status : ℕ
  pub test : List ℕ
  pub label : List ℕ
  pub ordinal : ℕ

abbrev pub verdict_place : World → Verdict → VerdictPlace
verdict_place world verdict = record {
  status = status_number verdict.status;
  test = (key_of_results world verdict).test;
  label = verdict.label;
  ordinal = verdict.ordinal;
}

abbrev pub by_verdict : VerdictPlace → VerdictPlace → Ordering
by_verdict a b =
    ordering_then (nat_cmp a.status b.status)
    (ordering_then (slice_cmp nat_cmp a.test b.test)
    (ordering_then (slice_cmp nat_cmp a.label b.label) (nat_cmp a.ordinal b.ordinal)))

-- the place that a key tells
abbrev pub place_seen : VerdictKey → VerdictPlace
place_seen key = record {
  status = key.status;
  test = key.test.now;
  label = key.label;
  ordinal = key.ordinal;
}

-- The keys of the verdicts of a list rise.
abbrev pub KeysRise : World → List Verdict → Type 0
KeysRise world list =
    IsRising (λ a b. by_verdict (verdict_place world a) (verdict_place world b)) list

-- A page of verdicts, and whether more are left.
abbrev pub verdict_rows : World → List Verdict → Option VerdictPlace → ℕ → List Verdict
verdict_rows world list after size = page_rows by_verdict (verdict_place world) list after size

abbrev pub more_verdicts : World → List Verdict → Option VerdictPlace → ℕ → Bool
more_verdicts world list after size = has_more by_verdict (verdict_place world) list after size

-- what stands behind a place
abbrev pub verdicts_behind : World → List Verdict → VerdictPlace → List Verdict
verdicts_behind world list place = behind by_verdict (verdict_place world) list (Some place)

-- Where a result stands: the ids of the invocation that holds it, of its test, and its own.
pub record ResultPlace : Type 0 where
  pub invocation : List ℕ
  pub test : List ℕ
  pub result : List ℕ

abbrev pub result_place : World → ℕ → ResultPlace
result_place world place = record {
  invocation = (result_key_at world place).invocation;
  test = (result_key_at world place).test;
  result = (result_key_at world place).id;
}

abbrev pub by_result : ResultPlace → ResultPlace → Ordering
by_result a b =
    ordering_then (slice_cmp nat_cmp a.invocation b.invocation)
    (ordering_then (slice_cmp nat_cmp a.test b.test) (slice_cmp nat_cmp a.result b.result))

-- the place that a key tells
abbrev pub result_seen : ResultKey → ResultPlace
result_seen key = record {
  invocation = key.invocation.now;
  test = key.test.now;
  result = key.result.now;
}

-- The keys of the results of a list rise.
abbrev pub ResultKeysRise : World → List ℕ → Type 0
ResultKeysRise world list =
    IsRising (λ p q. by_result (result_place world p) (result_place world q)) list

-- A page of results, and whether more are left.
abbrev pub result_rows : World → List ℕ → Option ResultPlace → ℕ → List ℕ
result_rows world list after size = page_rows by_result (result_place world) list after size

abbrev pub more_results : World → List ℕ → Option ResultPlace → ℕ → Bool
more_results world list after size = has_more by_result (result_place world) list after size

-- what stands behind a place
abbrev pub results_behind : World → List ℕ → ResultPlace → List ℕ
results_behind world list place = behind by_result (result_place world) list (Some place)
