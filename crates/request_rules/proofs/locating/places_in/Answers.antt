use Rattle.std.proofs.Common.{◌≡◌, ◌<◌, length, get_or, arith}
use Rattle.std.proofs.lemmas.Grind.{common_steps}
use Rattle.request_rules.proofs.PlaceLaws.{placed_more}
use Rattle.request_rules.proofs.locating.places_in.Goals as goal

pub loop-id-preserved : goal.loop-id-preserved
loop-id-preserved c =
    let lt : c.loop-id.id-index < length c.args.ids.now = omega arith in
    let at : get_or c.args.ids.now c.loop-id.id-index c.id-item.result ≡ c.id-item.result = grind (arith, common_steps) in
    placed_more c.args.table.now.rows c.args.ids.now c.loop-id.id-index c.id-item.result _ _ c.place_of.result lt at
    c.loop-id.invariant c.place_of.ensures c.in_ok-push.ensures.items
