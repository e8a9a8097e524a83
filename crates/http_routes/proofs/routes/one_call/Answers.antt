use Rattle.http_routes.proofs.PartLaws.{one_call}
use Rattle.http_routes.proofs.routes.one_call.Goals as goal

pub returns-clause-service : goal.returns-clause-service
returns-clause-service c target a b d e x y = (one_call target a b d e x y).0

pub returns-clause-method : goal.returns-clause-method
returns-clause-method c target a b d e x y = (one_call target a b d e x y).1
