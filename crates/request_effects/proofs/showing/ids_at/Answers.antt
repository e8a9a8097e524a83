use Rattle.std.proofs.Common.{map, get_or, ap, ◌∙◌}
use Rattle.std.proofs.lemmas.List.{map_push}
use Rattle.request_effects.proofs.AheadFacts.{ids_more, read_there}
use Rattle.request_effects.proofs.showing.ids_at.Goals as goal

pub loop-place-preserved : goal.loop-place-preserved
loop-place-preserved c =
    let place = get_or c.args.places.now c.loop-place.place-index 0 in
    ids_more c.args.world.now.world.invocations c.args.places.now c.loop-place.place-index place c.row.result.now
    (map (λ id. id.now) c.loop-place.ids.items) (map (λ id. id.now) c.push.new.self.items) c.loop-place-test.true
    (read_there c.args.places.now c.loop-place.place-index c.loop-place-test.true) c.row.ensures.row c.loop-place.invariant
    (ap (map (λ id. id.now)) c.in_ok-push.ensures.items ∙ map_push (λ id. id.now) c.loop-place.ids.items _)
