use Rattle.message_forms.proofs.FaultLaws.{fault_is_refused}
use Rattle.message_forms.proofs.laws.fault_is_refused.Goals as goal

pub returns : goal.returns
returns c = fault_is_refused
