use Rattle.std.proofs.Common.{ap, subst, ◌∙◌}
use Rattle.std.proofs.lemmas.Result.{IfOk-weaker}
use Rattle.service_effects.specs.declared.effect.Planned.{Planned}
use Rattle.service_effects.specs.States.{recorded_in}
use Rattle.request_effects.specs.Effects.{effect_of}
use Rattle.request_effects.specs.Planned.{IsPlanned}
use Rattle.service_core.specs.Again.{again_of}
use Rattle.service_core.specs.CoreState.{CoreState}
use Rattle.service_core.proofs.PlanLaws.{never_unrefused, prepared_so}
use Rattle.service_core.proofs.serving.Core.prepare_again.Goals as goal
use Rattle.service_core.proofs.serving.Core.prepare_again.Goals.{in-Some-2, in-None-2}

pub returns-in-Refused-clause-prepared : goal.returns-in-Refused-clause-prepared
returns-in-Refused-clause-prepared c = λ free place.
    let context = c.args.context.now in
    let refused = subst (λ (p : Planned). IsPlanned c.plan_change.new.tables context.moment
    (effect_of (recorded_in c.self.inside.tables) context.moment context.name.now c.args.request) p)
    c.in-Refused.is c.in_ok-plan_change.ensures.planned in
    elim c.match-said-2.branch [
      | in-Some-2 w ↦ absurd (never_unrefused c.match-said-2.self _ c.args.self.now c.plan_change.new.tables context.moment context.name.now
          c.args.request c.in-Refused.field-0 (ap (λ (k : CoreState). k.held) w.self-is) c.self.view_is refused free)
      | in-None-2 w ↦ absurd (never_unrefused c.match-said-2.self _ c.args.self.now c.plan_change.new.tables context.moment context.name.now
          c.args.request c.in-Refused.field-0 (ap (λ (k : CoreState). k.held) w.self-is) c.self.view_is refused free)
    ]

pub returns-in-Ready-clause-prepared : goal.returns-in-Ready-clause-prepared
returns-in-Ready-clause-prepared c =
    let context = c.args.context.now in
    let a = again_of c.args.self.now context.moment context.name.now c.args.said c.args.request in
    let ready = subst (λ (p : Planned). IsPlanned c.plan_change.new.tables context.moment
    (effect_of (recorded_in c.self.inside.tables) context.moment context.name.now c.args.request) p)
    c.in-Ready.is c.in_ok-plan_change.ensures.planned in
    IfOk-weaker c.plan_again.result _ _
    (λ p done.
    prepared_so _ c.plan_again.new.self a c.in-Ready.effect p c.plan_again.ensures.roomier
    (ready.0
    ∙ ap (λ (k : CoreState). effect_of (recorded_in k.held) context.moment context.name.now c.args.request) c.self.view_is)
    ready.1 done)
    c.plan_again.ensures.done
