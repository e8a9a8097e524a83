use Rattle.moments_spans.proofs.SaidLaws.{printed_decimals_are_said}
use Rattle.moments_spans.proofs.laws.printed_decimals_are_said.Goals as goal

pub returns : goal.returns
returns c = printed_decimals_are_said
