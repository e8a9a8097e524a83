use Rattle.std.proofs.Common.{◌≡◌, ap, map, ◌∙◌}
use Rattle.std.proofs.lemmas.Result.{IfOk-weaker}
use Rattle.std.specs.Prelude.{slice_get}
use Rattle.call_forms.specs.declared.forms.Answer.{Answer}
use Rattle.request_rules.specs.MessageForms.declared.replies.Reply.TheVariants as reply
use Rattle.request_effects.specs.Shows.{done, reply_at}
use Rattle.request_effects.proofs.AheadFacts.{shown_so}
use Rattle.request_effects.proofs.ahead.Ahead.answer.Goals as goal

pub returns : goal.returns
returns c after acts =
    let w = c.args.self.now.tables.now.world.world in
    IfOk-weaker c.done.result (λ (a : Answer). a ≡ done c.args.token (reply.Invocation c.shown_with-shown.result))
    (λ (a : Answer). a ≡ done c.args.token (reply_at after c.args.place (slice_get after.invocations c.args.place)))
    (λ a is.
    is ∙ ap (done c.args.token)
    (shown_so w after c.args.place c.row-seen.result c.included.result.now (map (λ id. id.now) c.as_slice.result.now) c.shown_with-shown.result
    (c.row-seen.ensures after acts) (c.included.ensures.targets after acts)
    (ap (map (λ id. id.now)) c.as_slice.ensures.value ∙ c.in_ok-included.ensures) c.shown_with-shown.ensures))
    c.done.ensures
