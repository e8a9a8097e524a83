use Rattle.names_realms.proofs.InvocationNameLemmas.{IsInvocationName-fault}
use Rattle.names_realms.proofs.laws.invocation_name_has_no_fault.Goals as goal

pub returns : goal.returns
returns c = IsInvocationName-fault
