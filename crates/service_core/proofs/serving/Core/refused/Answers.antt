use Rattle.std.proofs.Common.{Some, None, ap, ◌∙◌}
use Rattle.request_effects.specs.RequestRules.Breaches.{refusal_of}
use Rattle.request_effects.specs.Places.{held_in}
use Rattle.service_effects.specs.States.{recorded_in}
use Rattle.service_core.specs.CoreState.{CoreState, world_in}
use Rattle.service_core.proofs.ServeLaws.{found_there}
use Rattle.service_core.proofs.serving.Core.refused.Goals as goal

pub returns-in-Some-clause-told : goal.returns-in-Some-clause-told
returns-in-Some-clause-told c = λ asked is numbered. (
  refusal_of c.in-Some.breach,
  found_there (record { policy = c.args.policy.now }) (world_in c.args.self.now) c.args.moment c.table.result.now.rows (held_in (recorded_in c.self.inside.tables)) asked c.args.call.now
      c.order.result.now (Some (refusal_of c.in-Some.breach)) (c.table.ensures.rows ∙ ap (λ (k : CoreState). k.held.world.world.invocations) c.self.view_is)
      (ap (λ (k : CoreState). held_in (recorded_in k.held)) c.self.view_is) c.order.ensures (c.in-Some.ensures c.args.self.now.keeps.kept asked is numbered),
  c.in_ok-answer-in-Some.ensures,
)

pub returns-clause-told : goal.returns-clause-told
returns-clause-told c = λ asked is numbered.
    found_there (record { policy = c.args.policy.now }) (world_in c.args.self.now) c.args.moment c.table.result.now.rows (held_in (recorded_in c.self.inside.tables)) asked c.args.call.now
    c.order.result.now None (c.table.ensures.rows ∙ ap (λ (k : CoreState). k.held.world.world.invocations) c.self.view_is)
    (ap (λ (k : CoreState). held_in (recorded_in k.held)) c.self.view_is) c.order.ensures (c.in-None.ensures c.args.self.now.keeps.kept asked is numbered)
