use Rattle.std.proofs.lemmas.Result.{IfOk-weaker, IfErr-weaker}
use Rattle.moments_spans.proofs.SpanTexts.{said_of_text, fault_of_text}
use Rattle.moments_spans.proofs.spans.Span.parse.Goals as goal

pub returns-clause-said : goal.returns-clause-said
returns-clause-said c = IfOk-weaker c.read.result _ _ (λ s e. said_of_text c.args.text.now s e) c.read.ensures.ok

pub returns-clause-wrong : goal.returns-clause-wrong
returns-clause-wrong c = IfErr-weaker c.read.result _ _ (λ f e. fault_of_text c.args.text.now f e) c.read.ensures.fault
