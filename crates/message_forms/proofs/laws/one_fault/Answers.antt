use Rattle.message_forms.proofs.FaultLaws.{one_fault}
use Rattle.message_forms.proofs.laws.one_fault.Goals as goal

pub returns : goal.returns
returns c = one_fault
