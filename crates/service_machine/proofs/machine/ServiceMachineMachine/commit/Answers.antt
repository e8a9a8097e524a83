use Rattle.std.proofs.Common.{subst}
use Rattle.service_replay.specs.ServiceCore.CoreState.{PlanState, world_in}
use Rattle.service_replay.specs.ServiceCore.Plans.{Carries}
use Rattle.service_machine.proofs.machine.ServiceMachineMachine.commit.Goals as goal

pub returns-clause-world : goal.returns-clause-world
returns-clause-world c =
    let after = world_in c.commit.new.self in
    c.requires.leads after
    (subst (λ (plan : PlanState). Carries (world_in c.args.self.now.core) plan after) c.into_plan.ensures c.commit.ensures.world)
