use Rattle.json_fields.proofs.TextLaws.{span_of_text, span_fault-None}
use Rattle.json_fields.proofs.laws.span_without_fault.Goals as goal

pub returns : goal.returns
returns c = λ text. (λ e. span_of_text text e, λ w. span_fault-None text w.0 w.1 w.2)
