use Rattle.serde_json.specs.View.{view}
use Rattle.artifact_forms.proofs.BatchLaws.{batch_stops}
use Rattle.artifact_forms.proofs.batches.BatchCreateArtifactsForm.read.Goals as goal

pub returns-in-Err-clause-err : goal.returns-in-Err-clause-err
returns-in-Err-clause-err c =
    batch_stops (view c.args.value.now) c.in-Err.fault c.request_id.result c.requests.result c.leader_of.result.now c.request_id.ensures c.requests.ensures
    c.in_ok-object.ensures.ok c.in_ok-request_id.ensures.ok.0 c.leader_of.ensures c.in-Err.ensures.err
