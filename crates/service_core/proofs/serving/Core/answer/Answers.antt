use Rattle.std.proofs.Common.{sym, ◌∙◌, subst}
use Rattle.request_effects.specs.RequestDemands.Settings.{Settings}
use Rattle.service_core.specs.CoreState.{world_in}
use Rattle.service_core.specs.Plans.{IsPrepared}
use Rattle.service_core.specs.Step.{performed, refused, repeated}
use Rattle.service_core.proofs.PlanLaws.{answers_as, fits_as, same_world, told_at_once, told_of}
use Rattle.service_core.proofs.serving.Core.answer.Goals as goal

pub returns-in-Ok-Refused : goal.returns-in-Ok-Refused
returns-in-Ok-Refused c = λ asked is.
    let s : Settings = record { policy = c.args.policy.now } in
    let told = subst (IsPrepared s c.prepare_if.new.self c.args.moment asked) c.in-Ok-Refused.field-0-is (c.in-Ok-Refused.ensures.prepared asked is) in
    told_at_once s c.args.self.now c.prepare_if.new.self c.args.moment asked c.in-Ok-Refused.answer (same_world c.args.self.now c.prepare_if.new.self c.prepare_if.ensures.roomier) (refused told)

pub returns-in-Ok-Repeated : goal.returns-in-Ok-Repeated
returns-in-Ok-Repeated c = λ asked is.
    let s : Settings = record { policy = c.args.policy.now } in
    let told = subst (IsPrepared s c.prepare_if.new.self c.args.moment asked) c.in-Ok-Repeated.field-0-is (c.in-Ok-Repeated.ensures.prepared asked is) in
    told_at_once s c.args.self.now c.prepare_if.new.self c.args.moment asked c.in-Ok-Repeated.answer (same_world c.args.self.now c.prepare_if.new.self c.prepare_if.ensures.roomier) (repeated told)

pub returns-in-Ok-Answered : goal.returns-in-Ok-Answered
returns-in-Ok-Answered c = λ asked is.
    let s : Settings = record { policy = c.args.policy.now } in
    let told = subst (IsPrepared s c.prepare_if.new.self c.args.moment asked) c.in-Ok-Answered.field-0-is (c.in-Ok-Answered.ensures.prepared asked is) in
    told_at_once s c.args.self.now c.prepare_if.new.self c.args.moment asked c.in-Ok-Answered.answer (same_world c.args.self.now c.prepare_if.new.self c.prepare_if.ensures.roomier) (performed told)

pub commit-requires : goal.commit-requires
commit-requires c =
    let some = c.requires.understood in
    fits_as (record { policy = c.args.policy.now }) c.prepare_if.new.self c.args.moment some.0 c.in-Ok-Change.field-0 c.in-Ok-Change.plan
    c.in-Ok-Change.field-0-is (c.in-Ok-Change.ensures.prepared some.0 some.1)

pub unreachable-requires : goal.unreachable-requires
unreachable-requires c =
    let some = c.requires.understood in
    answers_as (record { policy = c.args.policy.now }) c.prepare_if.new.self c.args.moment some.0 c.in-Ok-Change.field-0 c.in-Ok-Change.plan
    c.in-Ok-Change.field-0-is (c.in-Ok-Change.ensures.prepared some.0 some.1) (sym c.commit.ensures.answer ∙ c.in-None.is)

pub returns-in-Some : goal.returns-in-Some
returns-in-Some c = λ asked is.
    told_of (record { policy = c.args.policy.now }) c.args.self.now c.prepare_if.new.self c.args.moment asked c.in-Ok-Change.field-0
    c.in-Ok-Change.plan c.commit.result c.in-Some.answer (world_in c.commit.new.self)
    (same_world c.args.self.now c.prepare_if.new.self c.prepare_if.ensures.roomier)
    c.in-Ok-Change.field-0-is (c.in-Ok-Change.ensures.prepared asked is) c.commit.ensures.world c.commit.ensures.answer c.in-Some.is
