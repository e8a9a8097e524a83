use Rattle.recorded_calls.proofs.CommandLaws.{one_command}
use Rattle.recorded_calls.proofs.laws.one_command.Goals as goal

pub returns : goal.returns
returns c = one_command
