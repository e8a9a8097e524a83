-- The status of a verdict.
use Rattle.std.specs.Prelude.{ℕ, Bool, true, false, not, List, if◌then◌else◌}
use Rattle.std.specs.List.{list_all}
use Rattle.names_realms.specs.declared.states.Status.{Status}
use Rattle.names_realms.specs.declared.states.Status.TheVariants.{Pass, Fail, Crash, Abort, Skip}
use Rattle.test_results.specs.declared.result.TestResult.{TestResult}
use Rattle.verdict_lists.specs.declared.verdict.VerdictStatus.{VerdictStatus}
use Rattle.verdict_lists.specs.declared.verdict.VerdictStatus.TheVariants.{Unexpected, UnexpectedlySkipped, Flaky, Exonerated, Expected}

-- The number of each status, by which verdicts are listed first.
abbrev pub status_number : VerdictStatus → ℕ
status_number Unexpected = 10
status_number UnexpectedlySkipped = 20
status_number Flaky = 30
status_number Exonerated = 40
status_number Expected = 50

abbrev pub is_skip : Status → Bool
is_skip Pass = false
is_skip Fail = false
is_skip Crash = false
is_skip Abort = false
is_skip Skip = true

abbrev pub is_expected : TestResult → Bool
is_expected row = row.expected

abbrev pub is_unexpected : TestResult → Bool
is_unexpected row = not row.expected

abbrev pub is_skipped : TestResult → Bool
is_skipped row = is_skip row.status

-- Exonerated, whatever the results are; else skipped by surprise, where all results are unexpected
-- and all were skipped; else unexpected, where all are; expected, where all are; flaky, where there
-- are some of each.
abbrev pub status_of : Bool → List TestResult → VerdictStatus
status_of exonerated rows =
    if exonerated then Exonerated
    else (if list_all is_unexpected rows
    then (if list_all is_skipped rows then UnexpectedlySkipped else Unexpected)
    else (if list_all is_expected rows then Expected else Flaky))
