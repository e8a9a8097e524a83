-- The two methods that take batches.
use Rattle.test_results.specs.declared.result.TestResult.{TestResult}
use Rattle.test_results.specs.declared.exoneration.TestExoneration.{TestExoneration}
use Rattle.result_forms.specs.Names as name
use Rattle.field_kinds.specs.Requests.{RequestForm}
use Rattle.result_forms.specs.Results.{a_result, IsResult, new_result_data, IsResultOfForm}
use Rattle.result_forms.specs.Exonerations.{an_exoneration, IsExoneration, new_exoneration_data, IsExonerationOfForm}
use Rattle.result_forms.specs.Batches.{Batch, RowForm, a_batch, IsBatch, batch_data, IsBatchOfForm}
use Rattle.result_forms.specs.declared.batches.BatchCreateTestResults.{BatchCreateTestResults}
use Rattle.result_forms.specs.declared.batches.BatchCreateTestExonerations.{BatchCreateTestExonerations}

abbrev pub result_row : RowForm TestResult
result_row = record {
  member = name.test_result;
  fault = a_result;
  means = IsResult;
  json = new_result_data;
  OfForm = IsResultOfForm;
}

abbrev pub exoneration_row : RowForm TestExoneration
exoneration_row = record {
  member = name.test_exoneration;
  fault = an_exoneration;
  means = IsExoneration;
  json = new_exoneration_data;
  OfForm = IsExonerationOfForm;
}

-- the batch that a request says
abbrev pub results_of : BatchCreateTestResults → Batch TestResult
results_of q = record { invocation = q.invocation; request_id = q.request_id; rows = q.requests }

abbrev pub exonerations_of : BatchCreateTestExonerations → Batch TestExoneration
exonerations_of q =
    record { invocation = q.invocation; request_id = q.request_id; rows = q.requests }

-- Requests that say a batch of rows: those that a body can ask for are those of their form.
abbrev pub batch_form : {Q A : Type 0} → RowForm A → (Q → Batch A) → RequestForm Q
batch_form f said = record {
  fault = a_batch f;
  means = λ d q. IsBatch f d (said q);
  json = λ q. batch_data f (said q);
  OfForm = λ q. IsBatchOfForm f (said q);
  CanBeAsked = λ q. IsBatchOfForm f (said q);
}

abbrev pub results_form : RequestForm BatchCreateTestResults
results_form = batch_form result_row results_of

abbrev pub exonerations_form : RequestForm BatchCreateTestExonerations
exonerations_form = batch_form exoneration_row exonerations_of
