use Rattle.message_forms.proofs.FaultLaws.{never_both}
use Rattle.message_forms.proofs.laws.never_both.Goals as goal

pub returns : goal.returns
returns c = never_both
