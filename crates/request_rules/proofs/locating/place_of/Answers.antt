use Rattle.request_rules.proofs.PlaceLaws.{found_is}
use Rattle.request_rules.proofs.locating.place_of.Goals as goal

pub returns : goal.returns
returns c = found_is c.args.table.now.rows c.args.id.now c.find.result c.find.ensures.table c.find.ensures.place
