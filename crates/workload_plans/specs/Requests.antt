-- What is asked for.
use Rattle.std.specs.Prelude.{ℕ, ◌+◌, List, [], ◌∷◌, ◌++◌, codes, decimal, Option, Some, None}
use Rattle.message_forms.specs.QueryForms.Variants.{variants_query}
use Rattle.message_forms.specs.QueryForms.declared.variants.QueryTestVariants.{QueryTestVariants}
use Rattle.message_forms.specs.declared.requests.Request.{Request}
use Rattle.message_forms.specs.declared.requests.Request.TheVariants as asks
use Rattle.page_tokens.specs.declared.kinds.VerdictCursor.{VerdictCursor}
use Rattle.test_results.specs.declared.result.TestResult.{TestResult}
use Rattle.workload_draws.specs.declared.drawn.DrawnResult.{DrawnResult}

-- a text and a number behind it
abbrev pub numbered : List ℕ → ℕ → List ℕ
numbered text n = text ++ decimal n

-- the id of an invocation
abbrev pub load_id : ℕ → List ℕ
load_id i = numbered (codes "u-w") i

abbrev pub create_request : ℕ → Request
create_request i = asks.CreateInvocation (record {
  request_id = Some (numbered (codes "c") i);
  id = load_id i;
  invocation = record { realm = codes "work:load"; deadline = None; tags = [] };
})

abbrev pub include_request : ℕ → ℕ → Request
include_request i j = asks.UpdateIncludedInvocations (record {
  including = load_id i;
  add = load_id j ∷ [];
})

abbrev pub result_of : ℕ → DrawnResult → TestResult
result_of k drawn = record {
  holder = 0;
  test = numbered (codes "t") drawn.test;
  result = numbered (codes "r") k;
  variant = [];
  expected = drawn.expected;
  status = drawn.status;
  summary = [];
  start = None;
  duration = None;
  tags = [];
  message = [];
  properties = [];
}

-- results, of which the first has this number
abbrev pub results_from : ℕ → List DrawnResult → List TestResult
results_from k [] = []
results_from k (drawn ∷ rest) = result_of k drawn ∷ results_from (k + 1) rest

abbrev pub batch_request : ℕ → List DrawnResult → Request
batch_request i drawn = asks.BatchCreateTestResults (record {
  invocation = load_id i;
  request_id = Some (numbered (codes "b") i);
  requests = results_from 0 drawn;
})

abbrev pub finalise_request : ℕ → Request
finalise_request i = asks.FinalizeInvocation (record { id = load_id i })

-- a page of at most 100 verdicts, from the start or behind one
abbrev pub page_request : ℕ → Option VerdictCursor → QueryTestVariants
page_request i behind = record {
  invocations = load_id i ∷ [];
  result_limit = 0;
  page_size = 100;
  page_token = behind;
}

-- the query that the tokens of these pages are of
abbrev pub page_query : ℕ → List ℕ
page_query i = variants_query (page_request i None)
