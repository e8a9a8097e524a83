use Rattle.names_realms.proofs.RealmLemmas.{IsRealm-realm_fault}
use Rattle.names_realms.proofs.laws.realm_has_no_fault.Goals as goal

pub returns : goal.returns
returns c = IsRealm-realm_fault
