use Rattle.moments_spans.proofs.SaidLaws.{one_moment_said}
use Rattle.moments_spans.proofs.laws.one_moment_said.Goals as goal

pub returns : goal.returns
returns c = one_moment_said
