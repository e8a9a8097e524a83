use Rattle.tap_reader.proofs.PointLemmas.{line_read}
use Rattle.tap_reader.proofs.laws.lines_are_read.Goals as goal

pub returns : goal.returns
returns c = line_read
