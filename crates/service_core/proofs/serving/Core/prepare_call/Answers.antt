use Rattle.std.proofs.Common.{subst}
use Rattle.std.proofs.lemmas.Result.{IfOk-weaker}
use Rattle.request_effects.specs.RequestDemands.Settings.{Settings}
use Rattle.request_effects.proofs.RequestDemands.PolicyLaws.{caller_is_there, names_of_sound}
use Rattle.service_core.specs.CoreState.{world_in}
use Rattle.service_core.specs.Judged.{TellsJudged}
use Rattle.service_core.specs.Planning.{ComesTo}
use Rattle.service_core.specs.Plans.{IsPrepared}
use Rattle.service_core.proofs.ClearedLaws.{safe}
use Rattle.service_core.proofs.PlanLaws.{prepared_in, same_world}
use Rattle.service_core.proofs.serving.Core.prepare_call.Goals as goal

pub assess-requires : goal.assess-requires
assess-requires c = record { call = c.requires.call }

pub returns-in-Err-clause-prepared : goal.returns-in-Err-clause-prepared
unfolding TellsJudged
returns-in-Err-clause-prepared c = λ asked is.
    let s : Settings = record { policy = c.args.policy.now } in
    subst (TellsJudged s c.args.self.now c.args.moment asked c.args.call) c.in-Err.is (c.in_ok-places.ensures asked is)

pub plan-requires-clause-there : goal.plan-requires-clause-there
plan-requires-clause-there c =
    let some = c.requires.call in
    caller_is_there (record { policy = c.args.policy.now }) some.0.bearer c.args.call.caller some.1.wants.caller_is

pub plan-requires-clause-places : goal.plan-requires-clause-places
unfolding TellsJudged
plan-requires-clause-places c =
    let s : Settings = record { policy = c.args.policy.now } in
    let some = c.requires.call in
    (subst (TellsJudged s c.args.self.now c.args.moment some.0 c.args.call) c.in-Ok.is (c.in_ok-places.ensures some.0 some.1)).1.1.0

pub plan-requires-clause-timely : goal.plan-requires-clause-timely
unfolding TellsJudged
plan-requires-clause-timely c =
    let s : Settings = record { policy = c.args.policy.now } in
    let some = c.requires.call in
    let told = subst (TellsJudged s c.args.self.now c.args.moment some.0 c.args.call) c.in-Ok.is (c.in_ok-places.ensures some.0 some.1) in
    record { valid = told.1.1.1; call = c.requires.in_range; later = c.requires.later; quiet = c.requires.quiet }

pub plan-requires-clause-safe : goal.plan-requires-clause-safe
unfolding TellsJudged
plan-requires-clause-safe c =
    let s : Settings = record { policy = c.args.policy.now } in
    let w = world_in c.args.self.now in
    let some = c.requires.call in
    let told = subst (TellsJudged s c.args.self.now c.args.moment some.0 c.args.call) c.in-Ok.is (c.in_ok-places.ensures some.0 some.1) in
    safe s w c.args.moment some.0 c.args.call.caller c.args.call.request (names_of_sound c.args.policy.now c.tables.ensures.sound)
    (record { new = told.0; judged = told.1.0 })

pub returns-in-Ok-clause-prepared : goal.returns-in-Ok-clause-prepared
unfolding TellsJudged
returns-in-Ok-clause-prepared c = λ asked is.
    let s : Settings = record { policy = c.args.policy.now } in
    let old = c.args.self.now in
    let new = c.plan.new.self in
    let told = subst (TellsJudged s old c.args.moment asked c.args.call) c.in-Ok.is (c.in_ok-places.ensures asked is) in
    IfOk-weaker c.plan.result (ComesTo s new c.args.moment asked c.args.call.caller c.args.call.request) (IsPrepared s new c.args.moment asked)
    (λ p comes.
    prepared_in s old new c.args.moment asked c.args.call.caller c.args.call.request p (same_world old new c.plan.ensures.roomier)
    (record { valid = told.1.1.1; call = c.requires.in_range; later = c.requires.later; quiet = c.requires.quiet })
    (record { new = told.0; judged = told.1.0 }) comes)
    (c.plan.ensures.comes asked is.digest_is is.length_is)
