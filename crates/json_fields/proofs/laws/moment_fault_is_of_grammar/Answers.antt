use Rattle.json_fields.proofs.TextLaws.{moment_fault-is, moment_fault-Some}
use Rattle.json_fields.proofs.laws.moment_fault_is_of_grammar.Goals as goal

pub returns : goal.returns
returns c = λ text f. (λ e. moment_fault-is text f e, λ w. moment_fault-Some text f w)
