use Rattle.invocation_forms.proofs.UserLaws.{row_is_showable}
use Rattle.invocation_forms.proofs.laws.row_is_showable.Goals as goal

pub returns : goal.returns
returns c = row_is_showable
