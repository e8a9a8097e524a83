use Rattle.std.proofs.Common.{rules}
use Rattle.service_core.specs.InvocationWorld.Advancing.{IsDueAt}
use Rattle.service_core.specs.CoreState.{world_in}
use Rattle.service_core.proofs.ServeLaws.{ticked}
use Rattle.service_replay.proofs.replaying.replay_tick.Goals as goal

pub returns-clause-ok : goal.returns-clause-ok
returns-clause-ok c =
    let due : IsDueAt c.args.core.now.held.world.world c.args.moment = search rules in
    record {
      later = search rules;
      due = due;
      advances = ticked c.args.core.now c.prepare_tick.new.self c.in_ok-plan.plan (world_in c.commit.new.self) c.args.moment
          c.in_ok-plan.ensures.core c.in_ok-plan.ensures.work c.in_ok-plan.ensures.keep c.in_ok-plan.ensures.length due c.commit.ensures.world;
    }
