use Rattle.moments_spans.proofs.SaidLaws.{said_span_has_no_fault}
use Rattle.moments_spans.proofs.laws.said_span_has_no_fault.Goals as goal

pub returns : goal.returns
returns c = said_span_has_no_fault
