-- The requests of a plan as bytes: a POST of HTTP/1.1 for each batch.
use Rattle.std.specs.Prelude.{ℕ, List, ◌++◌, length, map, codes, decimal, sum_by, Some}
use Rattle.serde_json.specs.Written.{compact_text}
use Rattle.call_forms.specs.ReplyBytes.{line, line_end}
use Rattle.message_forms.specs.Methods.{request_data}
use Rattle.message_forms.specs.declared.requests.Request.{Request}
use Rattle.message_forms.specs.declared.requests.Request.TheVariants as asks
use Rattle.sink_plans.specs.declared.plans.SinkBatch.{SinkBatch}
use Rattle.sink_plans.specs.declared.plans.SinkPlan.{SinkPlan}

-- What the request of a batch asks for: that its results be added to the invocation, by its number.
abbrev pub batch_request : List ℕ → SinkBatch → Request
batch_request invocation batch = asks.BatchCreateTestResults (record {
  invocation = invocation;
  request_id = Some batch.request_id;
  requests = batch.results;
})

-- its text as compact JSON
abbrev pub batch_body : List ℕ → SinkBatch → List ℕ
batch_body invocation batch = compact_text (request_data (batch_request invocation batch))

-- the head of a request with these tokens, before a body of so many bytes
unfoldable pub head_text : List ℕ → List ℕ → ℕ → List ℕ
head_text bearer update_token len =
    line (codes "POST /prpc/luci.resultdb.v1.Recorder/BatchCreateTestResults HTTP/1.1")
    ++ line (codes "Authorization: Bearer " ++ bearer)
    ++ line (codes "Update-Token: " ++ update_token)
    ++ line (codes "Content-Length: " ++ decimal len)
    ++ line_end

-- the request of a batch
abbrev pub batch_text : List ℕ → List ℕ → List ℕ → SinkBatch → List ℕ
batch_text invocation bearer update_token batch =
    head_text bearer update_token (length (batch_body invocation batch))
    ++ batch_body invocation batch

-- the requests of a plan, in order
abbrev pub requests_of : SinkPlan → List (List ℕ)
requests_of plan =
    map (batch_text plan.invocation plan.bearer plan.update_token) plan.batches

-- how many cases batches have together
abbrev pub cases_in : List SinkBatch → ℕ
cases_in batches = sum_by (λ batch. length batch.results) batches
