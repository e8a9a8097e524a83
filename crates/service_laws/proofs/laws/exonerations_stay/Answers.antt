use Rattle.service_laws.proofs.TableLaws.{exonerations_stay}
use Rattle.service_laws.proofs.laws.exonerations_stay.Goals as goal

pub returns : goal.returns
returns c = exonerations_stay
