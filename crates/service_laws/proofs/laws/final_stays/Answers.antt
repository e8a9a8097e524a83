use Rattle.service_laws.proofs.FinalLaws.{final_stays}
use Rattle.service_laws.proofs.laws.final_stays.Goals as goal

pub returns : goal.returns
returns c = final_stays
