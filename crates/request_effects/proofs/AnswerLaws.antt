-- What is shown to a caller is one answer, there is one, and what is read is what a change that does nothing leaves.
use Rattle.std.proofs.Common.{◌≡◌, ℕ, ℤ, Option, Some, None, Result, refl, sym, ap, ◌∙◌, subst}
use Rattle.std.specs.Prelude.{IfOk, slice_get}
use Rattle.std.specs.declared.alloc.AllocError.{AllocError}
use Rattle.artifact_pages.proofs.PageLaws.{a_page_is_there, one_page}
use Rattle.artifact_pages.specs.ArtifactReplies.Replies.{ArtifactsShown}
use Rattle.request_rules.specs.MessageForms.declared.replies.Reply.TheVariants as reply
use Rattle.test_results.specs.declared.result.TestResult.{TestResult}
use Rattle.call_forms.specs.declared.forms.Answer.{Answer}
use Rattle.query_replies.specs.QueryPages.Seen.{SeenHeld, SeenRows, SeenVerdicts}
use Rattle.query_replies.proofs.QueryPages.SameLemmas.{one_result_page_is, one_shown_result_is, one_verdict_page_is}
use Rattle.query_replies.proofs.QueryPages.ThereLemmas.{has_result_page_is, has_shown_result_is, has_verdict_page_is}
use Rattle.query_replies.specs.Pages.{reply_of, results_page, verdicts_page}
use Rattle.query_replies.specs.Results.{seen_data}
use Rattle.service_effects.specs.declared.effect.Effect.{Effect}
use Rattle.service_effects.specs.declared.effect.Effect.TheVariants as does
use Rattle.service_effects.specs.Effects.{Makes}
use Rattle.service_effects.specs.Fitting.{IsTimely}
use Rattle.service_effects.specs.Service.{Recorded}
use Rattle.service_effects.proofs.EffectLaws.{all_stays_same}
use Rattle.request_rules.specs.RequestDemands.Settings.{Settings}
use Rattle.request_effects.specs.declared.shows.Showing.{Showing}
use Rattle.request_effects.specs.declared.shows.Showing.TheVariants.{Alike, Result as OneResult, Results, Verdicts, Artifact as OneArtifact, Artifacts}
use Rattle.request_effects.specs.declared.shows.Shows.TheVariants as shows
use Rattle.request_effects.specs.Answers.{Answers, ShowsResult, artifact_answer, done_with, listed_in}
use Rattle.request_effects.specs.Shows.{Scene, answer_of, done}

-- ---- one answer

one_result : (s : Scene) (caller place : ℕ) (o : Option TestResult) (a b : Answer) → slice_get s.world.results place ≡ o
    → ShowsResult s caller place o a → ShowsResult s caller place o b → a ≡ b
one_result s caller place None a b at this that = this ∙ sym that
one_result s caller place (Some row) a b at this that =
    this.2 ∙ (ap (λ (h : SeenHeld). done_with (reply_of (seen_data h)))
    (one_shown_result_is (listed_in s.world) s.settings.policy caller place this.0 that.0 this.1 that.1) ∙ sym that.2)

pub one_answer : (s : Scene) (caller : ℕ) (shown : Showing) (a b : Answer) → Answers s caller shown a → Answers s caller shown b → a ≡ b
one_answer s caller (Alike x) a b this that = this ∙ sym that
one_answer s caller (OneResult place) a b this that = one_result s caller place (slice_get s.world.results place) a b refl this that
one_answer s caller (Results query) a b this that =
    this.2 ∙ (ap (λ (p : SeenRows). done_with (reply_of (results_page p)))
    (one_result_page_is (listed_in s.world) s.settings.policy caller query this.0 that.0 this.1 that.1) ∙ sym that.2)
one_answer s caller (Verdicts query) a b this that =
    this.2 ∙ (ap (λ (p : SeenVerdicts). done_with (reply_of (verdicts_page p)))
    (one_verdict_page_is (listed_in s.world) s.settings.policy caller query this.0 that.0 this.1 that.1) ∙ sym that.2)
one_answer s caller (OneArtifact place) a b this that = this ∙ sym that
one_answer s caller (Artifacts query) a b this that =
    this.2 ∙ (ap (λ (p : ArtifactsShown). done None (reply.Artifacts p))
    (one_page s.world.artifacts query this.0 that.0 this.1 that.1) ∙ sym that.2)

-- ---- there is one

result_there : (s : Scene) (caller place : ℕ) (o : Option TestResult) → slice_get s.world.results place ≡ o
    → (answer : Answer) × ShowsResult s caller place o answer
result_there s caller place None at = (answer_of s shows.Empty, refl)
result_there s caller place (Some row) at =
    let held = has_shown_result_is (listed_in s.world) s.settings.policy caller place row at in
    (done_with (reply_of (seen_data held.0)), (held.0, held.1, refl))

pub answer_there : (s : Scene) (caller : ℕ) (shown : Showing) → (answer : Answer) × Answers s caller shown answer
answer_there s caller (Alike x) = (answer_of s x, refl)
answer_there s caller (OneResult place) = result_there s caller place (slice_get s.world.results place) refl
answer_there s caller (Results query) =
    let page = has_result_page_is (listed_in s.world) s.settings.policy caller query in
    (done_with (reply_of (results_page page.0)), (page.0, page.1, refl))
answer_there s caller (Verdicts query) =
    let page = has_verdict_page_is (listed_in s.world) s.settings.policy caller query in
    (done_with (reply_of (verdicts_page page.0)), (page.0, page.1, refl))
answer_there s caller (OneArtifact place) = (artifact_answer s (slice_get s.world.artifacts place), refl)
answer_there s caller (Artifacts query) =
    let page = a_page_is_there s.world.artifacts query in
    (done None (reply.Artifacts page.0), (page.0, page.1, refl))

-- ---- what is read

-- what is read before a change that does nothing is what is shown of what it leaves
pub read_before : (s : Settings) (w after : Recorded) (moment : ℤ) (effect : Effect) (caller : ℕ) (shown known : Showing)
    (r : Result Answer AllocError) → IsTimely w.rows moment → effect ≡ does.Nothing → shown ≡ known → Makes moment effect w after
    → IfOk r (Answers (record { settings = s; world = w }) caller known) → IfOk r (Answers (record { settings = s; world = after }) caller shown)
read_before s w after moment effect caller shown known r timely is same makes read =
    subst (λ (x : Showing). IfOk r (Answers (record { settings = s; world = after }) caller x)) (sym same)
    (subst (λ (v : Recorded). IfOk r (Answers (record { settings = s; world = v }) caller known))
    (sym (all_stays_same w after moment effect timely makes is)) read)
