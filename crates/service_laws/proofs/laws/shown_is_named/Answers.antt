use Rattle.service_laws.proofs.StayLaws.{shown_is_named}
use Rattle.service_laws.proofs.laws.shown_is_named.Goals as goal

pub returns : goal.returns
returns c = shown_is_named
