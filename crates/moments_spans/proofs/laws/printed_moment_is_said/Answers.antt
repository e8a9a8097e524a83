use Rattle.moments_spans.proofs.SaidLaws.{printed_moment_is_said}
use Rattle.moments_spans.proofs.laws.printed_moment_is_said.Goals as goal

pub returns : goal.returns
returns c = printed_moment_is_said
