use Rattle.message_forms.proofs.FaultLaws.{asks_or_has_fault}
use Rattle.message_forms.proofs.laws.asks_or_has_fault.Goals as goal

pub returns : goal.returns
returns c = asks_or_has_fault
