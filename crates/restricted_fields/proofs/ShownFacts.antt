-- What is shown to a caller of two worlds that look alike to the caller.
use Rattle.std.proofs.Common.{◌≡◌, ◌++◌, ℕ, Option, Some, None, refl, sym, ap, ◌∙◌, subst}
use Rattle.std.specs.List.{slice_get}
use Rattle.std.proofs.lemmas.Option.{none-some}
use Rattle.artifact_forms.specs.declared.listed.ListArtifacts.{ListArtifacts}
use Rattle.artifact_forms.specs.declared.named.GetArtifact.{GetArtifact}
use Rattle.artifacts.specs.declared.artifact.Artifact.{Artifact}
use Rattle.artifacts.specs.Orders.{invocation_of}
use Rattle.serde_json.specs.Data.{Data}
use Rattle.serde_json.specs.Written.{compact_text}
use Rattle.request_demands.specs.MessageForms.Replies.{reply_prefix}
use Rattle.request_demands.specs.MessageForms.declared.requests.Request.TheVariants as asks
use Rattle.request_demands.specs.Demands.{demand_of}
use Rattle.request_demands.specs.Order.{IsUnbroken}
use Rattle.service_laws.specs.RequestRules.Broken.{Denied}
use Rattle.test_results.specs.declared.result.TestResult.{TestResult}
use Rattle.call_forms.specs.declared.forms.Answer.{Answer}
use Rattle.request_demands.specs.MessageForms.declared.requests.Request.{Request}
use Rattle.verdict_lists.specs.World.{World as Listed}
use Rattle.query_pages.specs.declared.queries.ResultQuery.{ResultQuery}
use Rattle.query_pages.specs.declared.queries.VerdictQuery.{VerdictQuery}
use Rattle.query_pages.specs.Seen.{SeenHeld, SeenRows, SeenVerdicts}
use Rattle.query_pages.specs.Unseen.{AreLike}
use Rattle.query_pages.proofs.SameLemmas.{result_pages_unseen_is, results_unseen_is, verdict_pages_unseen_is}
use Rattle.query_pages.proofs.ThereLemmas.{has_result_page_is, has_shown_result_is, has_verdict_page_is}
use Rattle.query_pages.proofs.ZipLemmas.{zip_back, zip_on}
use Rattle.service_laws.specs.QueryReplies.Pages.{reply_of, results_page, verdicts_page}
use Rattle.service_laws.specs.QueryReplies.Results.{seen_data}
use Rattle.invocation_world.specs.World.{World}
use Rattle.request_demands.specs.Settings.{Settings}
use Rattle.service_laws.specs.RequestRules.Named.{place_named, place_of_artifact, place_of_result}
use Rattle.service_effects.specs.Service.{ServiceWorld, recorded}
use Rattle.service_laws.specs.RequestEffects.declared.shows.Showing.{Showing}
use Rattle.service_laws.specs.RequestEffects.declared.shows.Showing.TheVariants.{Results, Verdicts}
use Rattle.service_laws.specs.RequestEffects.Answers.{Answers, ShowsResult, artifact_answer, done_with, listed_in}
use Rattle.service_laws.specs.RequestEffects.Shows.{answer_of, artifacts_page as shown_page, result_query, shows_artifact, shows_of, shows_result, shows_row, verdict_query}
use Rattle.service_laws.specs.ServiceCore.Step.{scene_of}
use Rattle.restricted_fields.proofs.BesideFacts.{AlikeOver, listed_alike, with_rows}
use Rattle.restricted_fields.proofs.FileFacts.{page_alike, same_file}
use Rattle.restricted_fields.proofs.FoundFacts.{FindAlike}
use Rattle.restricted_fields.proofs.ReaderFacts.{Reads, by_reading}

abbrev listed : World → ServiceWorld → Listed
listed rows w = listed_in (recorded (with_rows rows w))

-- what is answered to the caller, of a world over these invocations
abbrev AnswersOf : Settings → World → ServiceWorld → ℕ → Showing → Answer → Type 0
AnswersOf s rows w caller shown answer = Answers (scene_of s (with_rows rows w)) caller shown answer

-- the invocations are all the same
row_alike : (s : Settings) (rows : World) (w v : ServiceWorld) (place : Option ℕ)
    → answer_of (scene_of s (with_rows rows w)) (shows_row place) ≡ answer_of (scene_of s (with_rows rows v)) (shows_row place)
row_alike s rows w v None = refl
row_alike s rows w v (Some place) = refl

-- one result
result_alike : (s : Settings) (rows : World) (w v : ServiceWorld) (caller place : ℕ) (answer : Answer) → AlikeOver s.policy caller rows w v
    → (o u : Option TestResult) → slice_get w.results place ≡ o → slice_get v.results place ≡ u
    → ShowsResult (scene_of s (with_rows rows w)) caller place o answer → ShowsResult (scene_of s (with_rows rows v)) caller place u answer
result_alike s rows w v caller place answer like None None a b h = h
result_alike s rows w v caller place answer like None (Some y) a b h =
    let there = zip_back (AreLike s.policy caller rows.invocations) w.results v.results place y like.results b in
    absurd (none-some there.0 (sym a ∙ there.1))
result_alike s rows w v caller place answer like (Some x) None a b h =
    let there = zip_on (AreLike s.policy caller rows.invocations) w.results v.results place x like.results a in
    absurd (none-some there.0 (sym b ∙ there.1))
result_alike s rows w v caller place answer like (Some x) (Some y) a b h =
    let also = has_shown_result_is (listed rows v) s.policy caller place y b in
    let same = results_unseen_is (listed rows w) (listed rows v) s.policy caller place h.0 also.0
    (listed_alike s.policy caller rows w v like) h.1 also.1 in
    (also.0, also.1, h.2 ∙ ap (λ (held : SeenHeld). done_with (reply_of (seen_data held))) same)

placed_alike : (s : Settings) (rows : World) (w v : ServiceWorld) (caller : ℕ) (answer : Answer) → AlikeOver s.policy caller rows w v
    → (place : Option ℕ) → AnswersOf s rows w caller (shows_result place) answer → AnswersOf s rows v caller (shows_result place) answer
placed_alike s rows w v caller answer like None h = h
placed_alike s rows w v caller answer like (Some place) h =
    result_alike s rows w v caller place answer like (slice_get w.results place) (slice_get v.results place) refl refl h

-- pages
results_alike : (s : Settings) (rows : World) (w v : ServiceWorld) (caller : ℕ) (answer : Answer) → AlikeOver s.policy caller rows w v
    → (query : ResultQuery) → AnswersOf s rows w caller (Results query) answer → AnswersOf s rows v caller (Results query) answer
results_alike s rows w v caller answer like query h =
    let also = has_result_page_is (listed rows v) s.policy caller query in
    let same = result_pages_unseen_is (listed rows w) (listed rows v) s.policy caller query h.0 also.0
    (listed_alike s.policy caller rows w v like) h.1 also.1 in
    (also.0, also.1, h.2 ∙ ap (λ (page : SeenRows). done_with (reply_of (results_page page))) same)

verdicts_alike : (s : Settings) (rows : World) (w v : ServiceWorld) (caller : ℕ) (answer : Answer) → AlikeOver s.policy caller rows w v
    → (query : VerdictQuery) → AnswersOf s rows w caller (Verdicts query) answer → AnswersOf s rows v caller (Verdicts query) answer
verdicts_alike s rows w v caller answer like query h =
    let also = has_verdict_page_is (listed rows v) s.policy caller query in
    let same = verdict_pages_unseen_is (listed rows w) (listed rows v) s.policy caller query h.0 also.0
    (listed_alike s.policy caller rows w v like) h.1 also.1 in
    (also.0, also.1, h.2 ∙ ap (λ (page : SeenVerdicts). done_with (reply_of (verdicts_page page))) same)

-- an artifact that is shown whole
same_answer : (s : Settings) (rows : World) (w v : ServiceWorld) (o : Option Artifact)
    → artifact_answer (scene_of s (with_rows rows w)) o ≡ artifact_answer (scene_of s (with_rows rows v)) o
same_answer s rows w v None = refl
same_answer s rows w v (Some row) = refl

file_alike : (s : Settings) (before rows : World) (w v : ServiceWorld) (caller : ℕ) (answer : Answer) → AlikeOver s.policy caller before w v
    → (q : GetArtifact) → IsUnbroken (Denied s.policy before.invocations caller (demand_of (asks.GetArtifact q))) → (place : Option ℕ)
    → place_of_artifact before.invocations w.artifacts q.name ≡ place
    → AnswersOf s rows w caller (shows_artifact place) answer → AnswersOf s rows v caller (shows_artifact place) answer
file_alike s before rows w v caller answer near q granted None at h = h
file_alike s before rows w v caller answer near q granted (Some place) at h =
    h ∙ (ap (artifact_answer (scene_of s (with_rows rows w)))
    (same_file s.policy caller before.invocations w.artifacts v.artifacts q place near.artifacts granted at)
    ∙ same_answer s rows w v (slice_get v.artifacts place))

-- and a page of artifacts
files_alike : (s : Settings) (rows : World) (w v : ServiceWorld) (caller : ℕ) (answer : Answer) → AlikeOver s.policy caller rows w v
    → (q : ListArtifacts) (holder : Option ℕ) → AnswersOf s rows w caller (shown_page holder q) answer
    → AnswersOf s rows v caller (shown_page holder q) answer
files_alike s rows w v caller answer like q None h = h
files_alike s rows w v caller answer like q (Some holder) h =
    let also = page_alike s.policy caller rows.invocations w.artifacts v.artifacts _ h.0 like.artifacts h.1 in
    (also.0, also.1, h.2 ∙ ap (λ (d : Data). done_with (reply_prefix ++ compact_text d)) also.2)

-- What a request of the service that reads shows is found over the invocations before, and shown over those afterwards.
pub answers_alike : (s : Settings) (before rows : World) (w v : ServiceWorld) (caller : ℕ) (answer : Answer)
    → FindAlike before.invocations w v → AlikeOver s.policy caller before w v → AlikeOver s.policy caller rows w v → (request : Request)
    → Reads request → IsUnbroken (Denied s.policy before.invocations caller (demand_of request))
    → Answers (scene_of s (with_rows rows w)) caller (shows_of (recorded (with_rows before w)) request) answer
    → Answers (scene_of s (with_rows rows v)) caller (shows_of (recorded (with_rows before v)) request) answer
answers_alike s before rows w v caller answer same near like =
    by_reading (λ q. IsUnbroken (Denied s.policy before.invocations caller (demand_of q))
    → AnswersOf s rows w caller (shows_of (recorded (with_rows before w)) q) answer
    → AnswersOf s rows v caller (shows_of (recorded (with_rows before v)) q) answer)
    (λ q granted h. h ∙ row_alike s rows w v (place_named before.invocations q.id))
    (λ q granted h. subst (λ (place : Option ℕ). AnswersOf s rows v caller (shows_result place) answer) (same.results q.name)
    (placed_alike s rows w v caller answer like (place_of_result before.invocations w.results q.name) h))
    (λ q granted h. results_alike s rows w v caller answer like (result_query (recorded (with_rows before w)) q) h)
    (λ q granted h. verdicts_alike s rows w v caller answer like (verdict_query (recorded (with_rows before w)) q) h)
    (λ q granted h. subst (λ (place : Option ℕ). AnswersOf s rows v caller (shows_artifact place) answer) (same.artifacts q.name)
    (file_alike s before rows w v caller answer near q granted (place_of_artifact before.invocations w.artifacts q.name) refl h))
    (λ q granted h. files_alike s rows w v caller answer like q (place_named before.invocations (invocation_of q.parent)) h)
