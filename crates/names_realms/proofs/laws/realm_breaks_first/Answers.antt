use Rattle.names_realms.proofs.RealmPlaces.{realm_breaks_first}
use Rattle.names_realms.proofs.laws.realm_breaks_first.Goals as goal

pub returns : goal.returns
returns c = realm_breaks_first
