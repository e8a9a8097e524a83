use Rattle.restricted_fields.proofs.HistoryLaws.{unseen_changes_no_history}
use Rattle.restricted_fields.proofs.laws.unseen_changes_no_history.Goals as goal

pub returns : goal.returns
returns c = unseen_changes_no_history
