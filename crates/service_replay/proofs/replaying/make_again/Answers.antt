use Rattle.std.proofs.Common.{ap, subst, ◌∙◌}
use Rattle.recorded_calls.specs.Commands.{call_said}
use Rattle.service_core.specs.RequestRules.Again.{IsUnused}
use Rattle.service_core.specs.RequestDemands.Numbered.{asked_again}
use Rattle.service_core.specs.RequestDemands.Demands.{Demand, demand_of}
use Rattle.service_core.specs.RequestEffects.Keeps.{numbered_of}
use Rattle.service_core.specs.RequestEffects.Places.{held_in}
use Rattle.service_effects.specs.Service.{ServiceWorld, recorded}
use Rattle.service_core.specs.CoreState.{world_in}
use Rattle.service_replay.specs.Replay.{ActsAgain}
use Rattle.service_replay.specs.Replaying.{IsActedAgain}
use Rattle.service_replay.proofs.AgainLaws.{acts_from, free_again, ok_more, plans_again, refused_more, right_is_safe}
use Rattle.service_replay.proofs.replaying.make_again.Goals as goal

pub act_again-requires-clause-safe : goal.act_again-requires-clause-safe
act_again-requires-clause-safe c =
    right_is_safe c.args.core.now.held.world.world (held_in (recorded (world_in c.args.core.now))) (call_said c.args.call.now) c.args.method
    c.args.request c.in_ok-places.ensures.right c.requires.asks c.requires.sayable

pub act_again-requires-clause-free : goal.act_again-requires-clause-free
act_again-requires-clause-free c =
    let kept = c.args.core.now.keeps.kept in
    let name = c.args.call.now.caller.now in
    let asked = asked_again c.args.method c.args.call.now.body.now in
    free_again kept name asked c.args.request c.record_of.result.numbered c.requires.asks
    (subst (λ (d : Demand). IsUnused kept name d) c.demand_of.ensures c.in_ok-numbered.ensures.unused)
    (c.record_of.ensures.numbered ∙ (c.in_ok-numbered.ensures.ok ∙ ap (λ (d : Demand). numbered_of asked d) c.demand_of.ensures))

pub returns-clause-refused : goal.returns-clause-refused
returns-clause-refused c =
    let w = world_in c.args.core.now in
    let call = call_said c.args.call.now in
    let asked = asked_again c.args.method c.args.call.now.body.now in
    refused_more (λ (next : ServiceWorld). IsActedAgain w call.moment call.caller c.record_of.result c.args.request next)
    (λ (next : ServiceWorld). ActsAgain w call c.args.method c.args.request next) c.act_again.result
    (λ next again. plans_again w call c.args.method c.record_of.result c.args.request next
    (c.record_of.ensures.numbered ∙ (c.in_ok-numbered.ensures.ok ∙ ap (λ (d : Demand). numbered_of asked d) c.demand_of.ensures))
    c.record_of.ensures.length again)
    c.act_again.ensures.refused

pub returns-clause-ok : goal.returns-clause-ok
returns-clause-ok c =
    let w = world_in c.args.core.now in
    let call = call_said c.args.call.now in
    let asked = asked_again c.args.method c.args.call.now.body.now in
    let after = world_in c.act_again.new.core in
    ok_more c.act_again.result (IsActedAgain w call.moment call.caller c.record_of.result c.args.request after)
    (ActsAgain w call c.args.method c.args.request after)
    (acts_from w call c.args.method c.record_of.result c.args.request after
    (subst (λ (d : Demand). IsUnused c.args.core.now.keeps.kept c.args.call.now.caller.now d) c.demand_of.ensures c.in_ok-numbered.ensures.unused)
    c.in_ok-places.ensures.right
    (c.record_of.ensures.numbered ∙ (c.in_ok-numbered.ensures.ok ∙ ap (λ (d : Demand). numbered_of asked d) c.demand_of.ensures))
    c.record_of.ensures.length)
    c.act_again.ensures.ok
