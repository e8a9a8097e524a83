use Rattle.names_realms.proofs.PairLemmas.{pair-fault}
use Rattle.names_realms.proofs.laws.pair_has_no_fault.Goals as goal

pub returns : goal.returns
returns c = pair-fault
