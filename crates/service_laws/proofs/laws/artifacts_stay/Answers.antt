use Rattle.service_laws.proofs.TableLaws.{artifacts_stay}
use Rattle.service_laws.proofs.laws.artifacts_stay.Goals as goal

pub returns : goal.returns
returns c = artifacts_stay
