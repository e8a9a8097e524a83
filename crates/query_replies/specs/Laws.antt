-- Laws of what replies to queries show.
use Rattle.std.specs.Prelude.{◌≡◌, ℕ, false, List, Some}
use Rattle.names_realms.specs.Variants.{label_of}
use Rattle.result_forms.specs.Laws.{IsPlain}
use Rattle.result_forms.specs.Replies.{result_data}
use Rattle.test_results.specs.declared.result.TestResult.{TestResult}
use Rattle.query_pages.specs.VerdictMasks.Masks.{Seen, hidden_of}
use Rattle.query_pages.specs.Seen.{SeenHeld, SeenRows, SeenVerdicts}
use Rattle.query_replies.specs.Pages.{results_page, verdicts_page}
use Rattle.query_replies.specs.Results.{seen_data}

-- all that is seen of a row that is shown whole
abbrev pub seen_whole : TestResult → Seen
seen_whole row = record {
  holder = row.holder;
  test = row.test;
  result = row.result;
  expected = row.expected;
  status = row.status;
  start = row.start;
  duration = row.duration;
  label = label_of row.variant;
  message = row.message;
  masked = false;
  hidden = Some (hidden_of row);
}

-- A row that is seen whole is shown as the reply to the batch that recorded it shows it.
abbrev pub WholeIsShownAsRecorded : Type 0
WholeIsShownAsRecorded =
    (id : List ℕ) (row : TestResult)
    → seen_data (record { invocation = id; result = seen_whole row }) ≡ result_data id row

-- What is shown has no float and nests little, so that its text is known, and is read.
abbrev pub ShowsPlain : Type 0
ShowsPlain =
    ((held : SeenHeld) → IsPlain 65 (seen_data held))
    × ((page : SeenRows) → IsPlain 67 (results_page page))
    × ((page : SeenVerdicts) → IsPlain 70 (verdicts_page page))
