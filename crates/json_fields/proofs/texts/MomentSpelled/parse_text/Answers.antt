use Rattle.json_fields.proofs.TextLaws.{moment_fault-Some}
use Rattle.json_fields.proofs.texts.MomentSpelled.parse_text.Goals as goal

pub returns-in-Err-clause-fault : goal.returns-in-Err-clause-fault
returns-in-Err-clause-fault c = λ _. moment_fault-Some c.args.text.now c.in-Err.fault c.in-Err.ensures.wrong
