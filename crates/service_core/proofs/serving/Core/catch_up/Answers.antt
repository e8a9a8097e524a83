use Rattle.service_core.specs.CoreState.{world_in}
use Rattle.service_core.proofs.ServeLaws.{caught_up, quiet_caught, ticked}
use Rattle.service_core.proofs.serving.Core.catch_up.Goals as goal

pub returns-in_ok-plan-clause-ok : goal.returns-in_ok-plan-clause-ok
returns-in_ok-plan-clause-ok c =
    ticked c.args.self.now c.prepare_tick.new.self c.in_ok-plan.plan (world_in c.commit.new.self) c.args.moment c.in_ok-plan.ensures.core
    c.in_ok-plan.ensures.work c.in_ok-plan.ensures.keep c.in_ok-plan.ensures.length c.if-is_due.ensures.due c.commit.ensures.world

pub returns-in_ok-plan-clause-timely : goal.returns-in_ok-plan-clause-timely
returns-in_ok-plan-clause-timely c =
    caught_up c.args.self.now (world_in c.commit.new.self) c.args.moment c.if-is_due.ensures.valid c.requires.in_range c.requires.later
    (ticked c.args.self.now c.prepare_tick.new.self c.in_ok-plan.plan (world_in c.commit.new.self) c.args.moment c.in_ok-plan.ensures.core
    c.in_ok-plan.ensures.work c.in_ok-plan.ensures.keep c.in_ok-plan.ensures.length c.if-is_due.ensures.due c.commit.ensures.world)

pub returns-else-is_due-clause-ok : goal.returns-else-is_due-clause-ok
returns-else-is_due-clause-ok c = quiet_caught (world_in c.args.self.now) c.args.moment c.if-is_due.ensures.due
