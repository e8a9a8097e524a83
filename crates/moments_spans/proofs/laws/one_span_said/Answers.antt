use Rattle.moments_spans.proofs.SaidLaws.{one_span_said}
use Rattle.moments_spans.proofs.laws.one_span_said.Goals as goal

pub returns : goal.returns
returns c = one_span_said
