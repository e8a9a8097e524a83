use Rattle.json_fields.proofs.TextLaws.{span_fault-is, span_fault-Some}
use Rattle.json_fields.proofs.laws.span_fault_is_of_grammar.Goals as goal

pub returns : goal.returns
returns c = λ text f. (λ e. span_fault-is text f e, λ w. span_fault-Some text f w)
