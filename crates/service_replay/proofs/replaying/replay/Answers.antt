use Rattle.std.proofs.Common.{subst}
use Rattle.recorded_calls.specs.Commands.{Said, said_by}
use Rattle.recorded_calls.proofs.CommandLaws.{one_command}
use Rattle.service_core.specs.CoreState.{world_in}
use Rattle.service_replay.specs.Replay.{ReplaysSaid}
use Rattle.service_replay.proofs.AgainLaws.{refused_more}
use Rattle.service_replay.proofs.replaying.replay.Goals as goal

pub returns-in-Some-clause-refused : goal.returns-in-Some-clause-refused
returns-in-Some-clause-refused c =
    let w = world_in c.args.core.now in
    let said = said_by c.in-Some.command in
    refused_more _ _ c.replay_said.result
    (λ next q.
    subst (λ (s : Said). ReplaysSaid w s next) (one_command c.args.command.now q.said said q.is_command c.in-Some.ensures) q.leads)
    c.replay_said.ensures.refused
