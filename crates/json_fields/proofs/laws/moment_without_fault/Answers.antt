use Rattle.json_fields.proofs.TextLaws.{moment_of_text, moment_fault-None}
use Rattle.json_fields.proofs.laws.moment_without_fault.Goals as goal

pub returns : goal.returns
returns c = λ text. (λ e. moment_of_text text e, λ w. moment_fault-None text w.0 w.1 w.2)
