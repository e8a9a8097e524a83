use Rattle.std.proofs.Common.{◌<◌, None, length, get_or, arith}
use Rattle.request_rules.proofs.Firsts.{read_same}
use Rattle.request_rules.proofs.PlaceLaws.{found_more}
use Rattle.request_rules.proofs.locating.found_in.Goals as goal

pub loop-place-preserved : goal.loop-place-preserved
loop-place-preserved c =
    let places = c.args.places.now in
    let place = get_or places c.loop-place.place-index None in
    let lt : c.loop-place.place-index < length places = omega arith in
    found_more places c.loop-place.place-index place _ _ lt (read_same places c.loop-place.place-index place None lt)
    c.loop-place.invariant c.in_ok-add_place.ensures
