use Rattle.service_laws.proofs.FinalityLaws.{final_in_time}
use Rattle.service_laws.proofs.laws.final_in_time.Goals as goal

pub returns : goal.returns
returns c = final_in_time
