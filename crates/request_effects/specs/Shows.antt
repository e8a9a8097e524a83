-- What a request shows of the world that it leaves, and the answer that shows it.
use Rattle.std.specs.Prelude.{ℕ, List, [], ◌∷◌, Option, Some, None, drop, length, slice_get, take}
use Rattle.std.specs.List.{filter_map}
use Rattle.artifacts.specs.declared.artifact.Artifact.{Artifact}
use Rattle.artifacts.specs.Orders.{invocation_of}
use Rattle.artifact_pages.specs.ArtifactForms.declared.listed.ListArtifacts.{ListArtifacts}
use Rattle.artifact_pages.specs.Pages.{query_from}
use Rattle.inclusion_graph.specs.Edges.{targets_of}
use Rattle.invocations.specs.declared.invocation.Invocation.{Invocation}
use Rattle.invocations.specs.Rows.{ids_of}
use Rattle.test_results.specs.declared.exoneration.TestExoneration.{TestExoneration}
use Rattle.test_results.specs.declared.result.TestResult.{TestResult}
use Rattle.call_forms.specs.declared.forms.Answer.{Answer}
use Rattle.request_rules.specs.MessageForms.declared.replies.Reply.{Reply}
use Rattle.request_rules.specs.MessageForms.declared.replies.Reply.TheVariants as reply
use Rattle.request_rules.specs.MessageForms.declared.requests.Request.{Request}
use Rattle.request_rules.specs.MessageForms.declared.requests.Request.TheVariants as asks
use Rattle.request_rules.specs.MessageForms.Replies.{reply_text}
use Rattle.request_rules.specs.InvocationForms.Shown.{InvocationShown}
use Rattle.invocation_world.specs.World.{World}
use Rattle.request_rules.specs.RequestDemands.Settings.{Settings}
use Rattle.request_rules.specs.Named.{place_named, place_of_artifact, place_of_result, places_named}
use Rattle.request_rules.specs.RequestDemands.Understood.{token_for}
use Rattle.request_effects.specs.Effects.{place_of_batch}
use Rattle.request_effects.specs.declared.shows.Showing.{Showing}
use Rattle.request_effects.specs.declared.shows.Showing.TheVariants as showing
use Rattle.request_effects.specs.declared.shows.Shows.{Shows}
use Rattle.request_effects.specs.declared.shows.Shows.TheVariants as shows
use Rattle.request_rules.specs.QueryForms.Results.{results_query}
use Rattle.request_rules.specs.QueryForms.Sizes.{counted}
use Rattle.request_rules.specs.QueryForms.Variants.{variants_query}
use Rattle.request_rules.specs.QueryForms.declared.results.QueryTestResults.{QueryTestResults}
use Rattle.request_rules.specs.QueryForms.declared.variants.QueryTestVariants.{QueryTestVariants}
use Rattle.query_replies.specs.QueryPages.declared.queries.ResultQuery.{ResultQuery}
use Rattle.query_replies.specs.QueryPages.declared.queries.VerdictQuery.{VerdictQuery}
use Rattle.service_effects.specs.Service.{Recorded}

abbrev pub shows_row : Option ℕ → Shows
shows_row None = shows.Empty
shows_row (Some place) = shows.Row place

-- so many new test results: they stand behind all that are there
abbrev pub shows_results : Recorded → Option ℕ → ℕ → Shows
shows_results w None count = shows.Empty
shows_results w (Some holder) count = shows.Results (length w.results) count

abbrev pub shows_exonerations : Recorded → Option ℕ → ℕ → Shows
shows_exonerations w None count = shows.Empty
shows_exonerations w (Some holder) count = shows.Exonerations (length w.exonerations) count

abbrev pub shows_artifacts : Recorded → Option ℕ → ℕ → Shows
shows_artifacts w None count = shows.Empty
shows_artifacts w (Some holder) count = shows.Artifacts (length w.artifacts) count

-- the result at a place, if one stands there
abbrev pub shows_result : Option ℕ → Showing
shows_result None = showing.Alike shows.Empty
shows_result (Some place) = showing.Result place

-- the artifact at a place, if one stands there
abbrev pub shows_artifact : Option ℕ → Showing
shows_artifact None = showing.Alike shows.Empty
shows_artifact (Some place) = showing.Artifact place

-- the page of artifacts that is asked for, of the row at a place if there is one
abbrev pub artifacts_page : Option ℕ → ListArtifacts → Showing
artifacts_page None q = showing.Alike shows.Empty
artifacts_page (Some holder) q = showing.Artifacts (query_from holder q)

-- the page of results that is asked for: 100 of them, where the request says no number, and never
-- more than 1,000
abbrev pub result_query : Recorded → QueryTestResults → ResultQuery
result_query w q = record {
  roots = places_named w.rows.invocations q.invocations;
  query = results_query q;
  after = q.page_token;
  size = counted 100 1_000 q.page_size;
}

-- the page of verdicts: 100 of them, and never more than 10,000, and of each 10 results, and never
-- more than 100
abbrev pub verdict_query : Recorded → QueryTestVariants → VerdictQuery
verdict_query w q = record {
  roots = places_named w.rows.invocations q.invocations;
  query = variants_query q;
  after = q.page_token;
  size = counted 100 10_000 q.page_size;
  results = counted 10 100 q.result_limit;
}

-- What a request shows, by the places in the world before it, a row a method. A new row stands
-- after all that are there.
abbrev pub shows_of : Recorded → Request → Showing
shows_of w (asks.CreateInvocation q) = showing.Alike (shows.Made (length w.rows.invocations))
shows_of w (asks.UpdateInvocation q) =
    showing.Alike (shows_row (place_named w.rows.invocations q.id))
shows_of w (asks.FinalizeInvocation q) =
    showing.Alike (shows_row (place_named w.rows.invocations q.id))
shows_of w (asks.UpdateIncludedInvocations q) = showing.Alike shows.Empty
shows_of w (asks.BatchCreateTestResults q) =
    showing.Alike
    (shows_results w (place_named w.rows.invocations q.invocation) (length q.requests))
shows_of w (asks.BatchCreateTestExonerations q) =
    showing.Alike
    (shows_exonerations w (place_named w.rows.invocations q.invocation) (length q.requests))
shows_of w (asks.BatchCreateArtifacts q) =
    showing.Alike
    (shows_artifacts w (place_of_batch w.rows.invocations q.requests) (length q.requests))
shows_of w (asks.GetInvocation q) =
    showing.Alike (shows_row (place_named w.rows.invocations q.id))
shows_of w (asks.GetTestResult q) =
    shows_result (place_of_result w.rows.invocations w.results q.name)
shows_of w (asks.QueryTestResults q) = showing.Results (result_query w q)
shows_of w (asks.QueryTestVariants q) = showing.Verdicts (verdict_query w q)
shows_of w (asks.GetArtifact q) =
    shows_artifact (place_of_artifact w.rows.invocations w.artifacts q.name)
shows_of w (asks.ListArtifacts q) =
    artifacts_page (place_named w.rows.invocations (invocation_of q.parent)) q

-- Where it is shown: what the service is set up with, and what is recorded.
pub record Scene : Type 0 where
  pub settings : Settings
  pub world : Recorded

-- the ids of the rows at these places
abbrev pub ids_at : List Invocation → List ℕ → List (List ℕ)
ids_at rows places = filter_map (λ place. slice_get (ids_of rows) place) places

-- what a reply shows of an invocation that includes these
abbrev pub shown_with : Invocation → List (List ℕ) → InvocationShown
shown_with row included = record {
  id = row.id;
  realm = row.realm;
  creator = row.creator;
  created = row.created;
  deadline = row.deadline;
  started = row.started;
  finished = row.finished;
  state = row.state;
  tags = row.tags;
  included = included;
}

-- and of one that stands at this place: it includes what it does in the world, in order of arrival
abbrev pub shown : World → ℕ → Invocation → InvocationShown
shown w place row = shown_with row (ids_at w.invocations (targets_of w.inclusions place))

abbrev pub reply_at : World → ℕ → Option Invocation → Reply
reply_at w place None = reply.Empty
reply_at w place (Some row) = reply.Invocation (shown w place row)

-- so many rows from a place on, of those that there are
abbrev pub part_of : {A : Type 0} → ℕ → ℕ → List A → List A
part_of first count rows = take count (drop first rows)

-- what is shown of rows, beside the id of their holder, which is that of the first one
abbrev pub results_shown : List TestResult → Option (List ℕ) → Reply
results_shown rows None = reply.Empty
results_shown rows (Some id) = reply.Results (record { invocation = id; rows = rows })

abbrev pub exonerations_shown : List TestExoneration → Option (List ℕ) → Reply
exonerations_shown rows None = reply.Empty
exonerations_shown rows (Some id) =
    reply.Exonerations (record { invocation = id; rows = rows })

abbrev pub results_reply : List Invocation → List TestResult → Reply
results_reply held [] = reply.Empty
results_reply held (row ∷ rows) =
    results_shown (row ∷ rows) (slice_get (ids_of held) row.holder)

abbrev pub exonerations_reply : List Invocation → List TestExoneration → Reply
exonerations_reply held [] = reply.Empty
exonerations_reply held (row ∷ rows) =
    exonerations_shown (row ∷ rows) (slice_get (ids_of held) row.holder)

-- the artifacts of a batch
abbrev pub artifacts_reply : List Artifact → Reply
artifacts_reply rows = reply.Artifacts (record { rows = rows; next = None })

-- The reply that shows this.
abbrev pub reply_of : Scene → Shows → Reply
reply_of s shows.Empty = reply.Empty
reply_of s (shows.Row place) =
    reply_at s.world.rows place (slice_get s.world.rows.invocations place)
reply_of s (shows.Made place) =
    reply_at s.world.rows place (slice_get s.world.rows.invocations place)
reply_of s (shows.Results first count) =
    results_reply s.world.rows.invocations (part_of first count s.world.results)
reply_of s (shows.Exonerations first count) =
    exonerations_reply s.world.rows.invocations (part_of first count s.world.exonerations)
reply_of s (shows.Artifacts first count) = artifacts_reply (part_of first count s.world.artifacts)

-- the update token that is handed out: that of a new invocation
abbrev pub token_at : Settings → Option Invocation → Option (List ℕ)
token_at s None = None
token_at s (Some row) = Some (token_for s row.id)

abbrev pub token_of : Scene → Shows → Option (List ℕ)
token_of s shows.Empty = None
token_of s (shows.Row place) = None
token_of s (shows.Made place) = token_at s.settings (slice_get s.world.rows.invocations place)
token_of s (shows.Results first count) = None
token_of s (shows.Exonerations first count) = None
token_of s (shows.Artifacts first count) = None

-- the answer that a request succeeded, with an update token where one is handed out
abbrev pub done : Option (List ℕ) → Reply → Answer
done token reply = record { status = 200; code = 0; token = token; body = reply_text reply }

-- The answer that shows this.
abbrev pub answer_of : Scene → Shows → Answer
answer_of s shows = done (token_of s shows) (reply_of s shows)
