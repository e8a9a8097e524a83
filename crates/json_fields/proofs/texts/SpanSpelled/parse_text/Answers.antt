use Rattle.json_fields.proofs.TextLaws.{span_fault-Some}
use Rattle.json_fields.proofs.texts.SpanSpelled.parse_text.Goals as goal

pub returns-in-Err-clause-fault : goal.returns-in-Err-clause-fault
returns-in-Err-clause-fault c = λ _. span_fault-Some c.args.text.now c.in-Err.fault c.in-Err.ensures.wrong
