use Rattle.service_laws.proofs.OnceLaws.{numbers_act_once}
use Rattle.service_laws.proofs.laws.numbers_act_once.Goals as goal

pub returns : goal.returns
returns c = numbers_act_once
