use Rattle.std.proofs.Common.{List, subst, ap, ◌∙◌}
use Rattle.call_forms.specs.declared.forms.Answer.{Answer}
use Rattle.invocations.specs.declared.invocation.Invocation.{Invocation}
use Rattle.request_effects.specs.RequestDemands.Demands.{demand_of}
use Rattle.request_effects.specs.RequestDemands.Settings.{Settings}
use Rattle.request_effects.specs.Places.{held_in, located_in}
use Rattle.request_effects.specs.RequestRules.Locating.{located}
use Rattle.service_effects.specs.States.{recorded_in}
use Rattle.service_core.specs.CoreState.{CoreState, world_in}
use Rattle.service_core.specs.Judged.{TellsJudged, TellsRefusal}
use Rattle.service_core.proofs.ServeLaws.{new_as, refuses_first}
use Rattle.service_core.proofs.serving.Core.judge.Goals as goal

pub refused-requires-clause-places : goal.refused-requires-clause-places
refused-requires-clause-places c =
    c.in_ok-places.ensures
    ∙ (ap (λ (rows : List Invocation). located rows (held_in (recorded_in c.self.inside.tables)) (demand_of c.args.call.now.request))
    (c.table-table.ensures.rows ∙ ap (λ (k : CoreState). k.held.world.world.invocations) c.self.view_is)
    ∙ ap (λ (k : CoreState). located c.args.self.now.held.world.world.invocations (held_in (recorded_in k.held)) (demand_of c.args.call.now.request)) c.self.view_is)

pub returns-in-Some : goal.returns-in-Some
unfolding TellsJudged
returns-in-Some c = λ asked is numbered.
    let s : Settings = record { policy = c.args.policy.now } in
    let w = world_in c.args.self.now in
    let told = subst (TellsRefusal s w c.args.moment asked c.args.call.now) c.in-Some.is (c.in_ok-answer.ensures.told asked is numbered) in
    refuses_first s w c.args.moment asked c.args.call.now told.0 c.in-Some.answer
    (new_as s w c.args.moment asked c.args.call.now c.args.number is numbered c.requires.other) told.1 told.2

pub returns-in-None : goal.returns-in-None
unfolding TellsJudged
returns-in-None c = λ asked is numbered.
    let s : Settings = record { policy = c.args.policy.now } in
    let w = world_in c.args.self.now in
    let new = new_as s w c.args.moment asked c.args.call.now c.args.number is numbered c.requires.other in
    let told = subst (TellsRefusal s w c.args.moment asked c.args.call.now) c.in-None.is (c.in_ok-answer.ensures.told asked is numbered) in
    let places = c.in_ok-places.ensures
    ∙ (ap (λ (rows : List Invocation). located rows (held_in (recorded_in c.self.inside.tables)) (demand_of c.args.call.now.request))
    (c.table-table.ensures.rows ∙ ap (λ (k : CoreState). k.held.world.world.invocations) c.self.view_is)
    ∙ ap (λ (k : CoreState). located c.args.self.now.held.world.world.invocations (held_in (recorded_in k.held)) (demand_of c.args.call.now.request)) c.self.view_is) in
    (new, (told, (places, c.in_ok-answer.ensures.valid)))
