use Rattle.service_replay.specs.ServiceCore.CoreState.{world_in}
use Rattle.service_machine.proofs.MachineLaws.{replays_are_alone}
use Rattle.service_machine.proofs.machine.ServiceMachineMachine.replay.Goals as goal

pub returns-in-Ok-clause-ok : goal.returns-in-Ok-clause-ok
returns-in-Ok-clause-ok c =
    replays_are_alone (world_in c.args.self.now.core) c.args.command.now (world_in c.replay.new.core) c.in-Ok.ensures.ok
