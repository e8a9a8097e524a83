use Rattle.moments_spans.proofs.SaidLaws.{one_span_fault}
use Rattle.moments_spans.proofs.laws.one_span_fault.Goals as goal

pub returns : goal.returns
returns c = one_span_fault
