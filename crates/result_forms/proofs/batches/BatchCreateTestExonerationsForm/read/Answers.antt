use Rattle.serde_json.specs.View.{view}
use Rattle.result_forms.specs.Methods.{exoneration_row}
use Rattle.result_forms.proofs.BatchLaws.{batch_stops}
use Rattle.result_forms.proofs.batches.BatchCreateTestExonerationsForm.read.Goals as goal

pub returns-in-Err-clause-err : goal.returns-in-Err-clause-err
returns-in-Err-clause-err c =
    batch_stops exoneration_row (view c.args.value.now) c.in-Err.fault c.invocation.result c.request_id.result c.requests.result
    c.outer_of-outer.result.invocation.now c.outer_of-outer.result.request_id.now c.invocation.ensures c.request_id.ensures c.requests.ensures
    c.in_ok-object.ensures.ok c.in_ok-named.ensures.ok.0 c.in_ok-request_id.ensures.ok.0 c.outer_of-outer.ensures.invocation
    c.outer_of-outer.ensures.request_id c.in-Err.ensures.err
