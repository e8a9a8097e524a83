use Rattle.std.proofs.Common.{◌≤ℤ◌, sym, subst}
use Rattle.invocation_world.specs.Advancing.{IsDueAt}
use Rattle.service_replay.specs.ServiceCore.CoreState.{CoreState}
use Rattle.service_machine.proofs.PlanFacts.{tick_fits}
use Rattle.service_machine.proofs.plans.RecordedPlan.tick.Goals as goal

pub returns-clause-fits : goal.returns-clause-fits
returns-clause-fits c =
    let same = sym c.in_ok-plan.ensures.core in
    tick_fits c.prepare_tick.new.self c.args.moment c.in_ok-plan.plan c.in_ok-command.command c.requires.in_range
    (subst (λ (core : CoreState). core.held.world.world.last ≤ℤ c.args.moment) same c.requires.later)
    (subst (λ (core : CoreState). IsDueAt core.held.world.world c.args.moment) same c.requires.due) c.in_ok-plan.ensures.fits
    c.in_ok-plan.ensures.work c.in_ok-plan.ensures.keep c.in_ok-plan.ensures.length c.in_ok-command.ensures
