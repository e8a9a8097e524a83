use Rattle.message_forms.proofs.RequestLaws.{asked_can_be_written}
use Rattle.message_forms.proofs.laws.asked_can_be_written.Goals as goal

pub returns : goal.returns
returns c = asked_can_be_written
