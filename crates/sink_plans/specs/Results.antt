-- The cases of a report as results.
use Rattle.std.specs.Prelude.{◌≡◌, ℕ, ◌+◌, List, [], ◌∷◌, None}
use Rattle.names_realms.specs.Names.{IsTestId, IsResultId}
use Rattle.names_realms.specs.declared.states.Case.{Case}
use Rattle.test_results.specs.declared.result.TestResult.{TestResult}
use Rattle.report_ids.specs.Digests.{result_id_text}
use Rattle.report_ids.specs.TestNames.{test_id_text}

-- The result of the case with this number, counted from 1, under the digest and the prefix.
abbrev pub result_of : List ℕ → List ℕ → ℕ → Case → TestResult
result_of digest prefix number case = record {
  holder = 0;
  test = test_id_text prefix case.name;
  result = result_id_text digest number;
  variant = [];
  expected = case.expected;
  status = case.status;
  summary = [];
  start = None;
  duration = case.duration;
  tags = [];
  message = case.message;
  properties = [];
}

-- The results of cases, of which the first has this number.
abbrev pub results_from : List ℕ → List ℕ → ℕ → List Case → List TestResult
results_from digest prefix number [] = []
results_from digest prefix number (case ∷ cases) =
    result_of digest prefix number case ∷ results_from digest prefix (number + 1) cases

-- A result that has the ids of a result, and beside them what a case says and nothing else.
pub record IsPlain (r : TestResult) : Type 0 where
  pub test : IsTestId r.test
  pub result : IsResultId r.result
  pub holder : r.holder ≡ 0
  pub variant : r.variant ≡ []
  pub summary : r.summary ≡ []
  pub start : r.start ≡ None
  pub tags : r.tags ≡ []
  pub properties : r.properties ≡ []
