use Rattle.std.proofs.Common.{◌≡◌, None, ap, sym, ◌∙◌, subst}
use Rattle.std.proofs.lemmas.Result.{IfOk-weaker}
use Rattle.call_forms.specs.declared.forms.Answer.{Answer}
use Rattle.service_effects.specs.States.{recorded_in}
use Rattle.request_effects.specs.Foreseen.{IsOwn}
use Rattle.request_effects.specs.Shows.{Scene, answer_of, artifacts_reply, done, exonerations_reply, results_reply}
use Rattle.request_effects.proofs.BatchFacts.{artifacts_so, exonerations_so, results_so}
use Rattle.request_effects.proofs.ahead.Ahead.show.Goals as goal

pub returns-in-Results : goal.returns-in-Results
returns-in-Results c after leaves =
    let a = c.args.self.now in
    let w = recorded_in a.tables.now in
    let own = subst (IsOwn w a.effect.now) c.in-Results.is c.requires.own in
    let scene : Scene = record { settings = record { policy = c.args.policy.now }; world = after } in
    IfOk-weaker c.results.result (λ (x : Answer). x ≡ done None (results_reply w.rows.invocations own.0))
    (λ (x : Answer). x ≡ answer_of scene c.args.shows)
    (λ x is.
    is ∙ (results_so scene.settings w after a.moment a.effect.now own.0 c.in-Results.first c.in-Results.count c.requires.foresees.timely own.1 own.2
    leaves
    ∙ ap (answer_of scene) (sym c.in-Results.is)))
    (c.results.ensures own.0 own.1)

pub returns-in-Exonerations : goal.returns-in-Exonerations
returns-in-Exonerations c after leaves =
    let a = c.args.self.now in
    let w = recorded_in a.tables.now in
    let own = subst (IsOwn w a.effect.now) c.in-Exonerations.is c.requires.own in
    let scene : Scene = record { settings = record { policy = c.args.policy.now }; world = after } in
    IfOk-weaker c.exonerations.result (λ (x : Answer). x ≡ done None (exonerations_reply w.rows.invocations own.0))
    (λ (x : Answer). x ≡ answer_of scene c.args.shows)
    (λ x is.
    is ∙ (exonerations_so scene.settings w after a.moment a.effect.now own.0 c.in-Exonerations.first c.in-Exonerations.count
    c.requires.foresees.timely own.1 own.2 leaves
    ∙ ap (answer_of scene) (sym c.in-Exonerations.is)))
    (c.exonerations.ensures own.0 own.1)

pub returns-in-Artifacts : goal.returns-in-Artifacts
returns-in-Artifacts c after leaves =
    let a = c.args.self.now in
    let w = recorded_in a.tables.now in
    let own = subst (IsOwn w a.effect.now) c.in-Artifacts.is c.requires.own in
    let scene : Scene = record { settings = record { policy = c.args.policy.now }; world = after } in
    IfOk-weaker c.artifacts.result (λ (x : Answer). x ≡ done None (artifacts_reply own.0.rows))
    (λ (x : Answer). x ≡ answer_of scene c.args.shows)
    (λ x is.
    is ∙ (artifacts_so scene.settings w after a.moment a.effect.now own.0 c.in-Artifacts.first c.in-Artifacts.count own.1 own.2 leaves
    ∙ ap (answer_of scene) (sym c.in-Artifacts.is)))
    (c.artifacts.ensures own.0 own.1)
