use Rattle.message_forms.proofs.RequestLaws.{update_changes_something}
use Rattle.message_forms.proofs.laws.update_changes_something.Goals as goal

pub returns : goal.returns
returns c = update_changes_something
