use Rattle.recorded_calls.proofs.CommandLaws.{written_is_read}
use Rattle.recorded_calls.proofs.laws.written_is_read.Goals as goal

pub returns : goal.returns
returns c = written_is_read
