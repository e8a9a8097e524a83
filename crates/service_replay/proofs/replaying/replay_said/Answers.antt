use Rattle.std.proofs.Common.{subst}
use Rattle.recorded_calls.specs.declared.command.Command.{Command}
use Rattle.recorded_calls.specs.Commands.{said_by}
use Rattle.service_core.specs.CoreState.{world_in}
use Rattle.service_replay.specs.Replay.{ReplaysSaid}
use Rattle.service_replay.proofs.AgainLaws.{refused_more}
use Rattle.service_replay.proofs.replaying.replay_said.Goals as goal

pub returns-in-Tick-clause-refused : goal.returns-in-Tick-clause-refused
returns-in-Tick-clause-refused c =
    let w = world_in c.args.core.now in
    refused_more _ _ c.replay_tick.result
    (λ next q. subst (λ (command : Command). ReplaysSaid w (said_by command) next) c.in-Tick.is q) c.replay_tick.ensures.refused
