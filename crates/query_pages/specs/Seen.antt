-- What is seen of results, verdicts and pages that are shown: plain data, in which nothing stands
-- that is hidden.
use Rattle.std.specs.Prelude.{ℕ, List, Option, map}
use Rattle.std.specs.Option.{option_copied}
use Rattle.names_realms.specs.declared.pairs.Pair.{Pair}
use Rattle.verdict_lists.specs.declared.verdict.VerdictStatus.{VerdictStatus}
use Rattle.verdict_masks.specs.Masks.{Seen, seen}
use Rattle.query_pages.specs.declared.pages.HeldResult.{HeldResult}
use Rattle.query_pages.specs.declared.pages.ShownVerdict.{ShownVerdict}
use Rattle.query_pages.specs.declared.pages.ShownVerdicts.{ShownVerdicts}
use Rattle.query_pages.specs.declared.pages.ShownRows.{ShownRows}

-- A result, with the id of the invocation that holds it.
pub record SeenHeld : Type 0 where
  pub invocation : List ℕ
  pub result : Seen

-- A verdict: the pairs of its variant where they may be seen, its first results, and of each
-- exoneration the explanation where it may be seen.
pub record SeenVerdict : Type 0 where
  pub test : List ℕ
  pub variant : Option (List Pair)
  pub label : List ℕ
  pub status : VerdictStatus
  pub results : List SeenHeld
  pub exonerations : List (Option (List ℕ))

-- A page of verdicts, and the text of the token for the page behind it.
pub record SeenVerdicts : Type 0 where
  pub verdicts : List SeenVerdict
  pub next : Option (List ℕ)

-- A page of results.
pub record SeenRows : Type 0 where
  pub rows : List SeenHeld
  pub next : Option (List ℕ)

abbrev pub seen_held : HeldResult → SeenHeld
seen_held held = record { invocation = held.invocation.now; result = seen held.shown }

abbrev pub seen_verdict : ShownVerdict → SeenVerdict
seen_verdict verdict = record {
  test = verdict.test.now;
  variant = option_copied verdict.variant;
  label = verdict.label;
  status = verdict.status;
  results = map seen_held verdict.results.items;
  exonerations = map option_copied verdict.exonerations.items;
}

abbrev pub seen_verdicts : ShownVerdicts → SeenVerdicts
seen_verdicts page = record {
  verdicts = map seen_verdict page.verdicts.items;
  next = page.next;
}

abbrev pub seen_rows : ShownRows → SeenRows
seen_rows page = record { rows = map seen_held page.rows.items; next = page.next }
