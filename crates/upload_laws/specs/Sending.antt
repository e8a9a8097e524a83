-- What the sink asks to upload a report.
use Rattle.std.specs.Prelude.{All, Some, codes}
use Rattle.call_forms.specs.declared.asked.Asked.{Asked}
use Rattle.sink_uploads.specs.MessageForms.Reading.{Asks}
use Rattle.sink_uploads.specs.MessageForms.declared.requests.Request.{Request}
use Rattle.sink_plans.specs.declared.plans.Destination.{Destination}
use Rattle.sink_plans.specs.declared.plans.SinkBatch.{SinkBatch}
use Rattle.sink_uploads.specs.Requests.{batch_body, batch_request}
use Rattle.upload_laws.specs.Reports.{CanBeSent, Report, plan_in}

-- What a batch asks: with the two tokens, that results be created, by the text of the batch.
abbrev pub asked_by : Destination → SinkBatch → Asked
asked_by to batch = record {
  bearer = Some to.bearer;
  update_token = Some to.update_token;
  service = codes "luci.resultdb.v1.Recorder";
  method = codes "BatchCreateTestResults";
  body = batch_body to.invocation batch;
}

-- What is asked by its service, its method and its body is this request.
abbrev pub AsksFor : Asked → Request → Type 0
AsksFor asked request = Asks asked.service asked.method asked.body request

-- What the sink asks by each batch of a report that can be sent is read as that batch: its results,
-- under its number.
abbrev pub BatchesAreRead : Type 0
BatchesAreRead =
    (r : Report) → CanBeSent r
    → All (λ batch. AsksFor (asked_by r.to batch) (batch_request r.to.invocation batch))
    (plan_in r).batches
