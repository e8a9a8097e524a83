use Rattle.recorded_calls.proofs.CommandLaws.{lengths_are_said}
use Rattle.recorded_calls.proofs.laws.lengths_are_said.Goals as goal

pub returns : goal.returns
returns c = lengths_are_said
