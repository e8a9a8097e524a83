use Rattle.moments_spans.proofs.SaidLaws.{printed_span_is_said}
use Rattle.moments_spans.proofs.laws.printed_span_is_said.Goals as goal

pub returns : goal.returns
returns c = printed_span_is_said
