use Rattle.restricted_fields.proofs.StepLaws.{unseen_changes_no_answer}
use Rattle.restricted_fields.proofs.laws.unseen_changes_no_answer.Goals as goal

pub returns : goal.returns
returns c = unseen_changes_no_answer
