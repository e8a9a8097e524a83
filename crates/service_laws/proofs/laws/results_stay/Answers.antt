use Rattle.service_laws.proofs.TableLaws.{results_stay}
use Rattle.service_laws.proofs.laws.results_stay.Goals as goal

pub returns : goal.returns
returns c = results_stay
