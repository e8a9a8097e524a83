use Rattle.moments_spans.proofs.SaidLaws.{printed_span_is_said}
use Rattle.moments_spans.proofs.spans.Span.write_to.Goals as goal

pub returns-clause-said : goal.returns-clause-said
returns-clause-said c = printed_span_is_said c.args.self.now c.to_text.ensures.range

pub returns-in_err-text-clause-said : goal.returns-in_err-text-clause-said
returns-in_err-text-clause-said c = printed_span_is_said c.args.self.now c.to_text.ensures.range
