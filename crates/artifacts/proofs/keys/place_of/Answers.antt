use Rattle.std.proofs.Common.{get_or, refl}
use Rattle.std.proofs.lemmas.List.{get_or_default}
use Rattle.artifacts.specs.Artifacts.{keys_of, named}
use Rattle.artifacts.proofs.KeyLemmas.{found_at, not_found}
use Rattle.artifacts.proofs.keys.place_of.Goals as goal

pub returns-in-Ok : goal.returns-in-Ok
returns-in-Ok c =
    let places = c.args.places.now in
    let at = c.in-Ok.at in
    let place = get_or places at 0 in
    found_at (keys_of c.args.rows.now) c.args.holder places (named c.args.holder c.args.name.now) at place c.requires
    c.in-Ok.ensures.0 c.in-Ok.ensures.1 (get_or_default places at 0 place c.in-Ok.ensures.0)

pub returns-in-Err : goal.returns-in-Err
returns-in-Err c =
    not_found (keys_of c.args.rows.now) c.args.holder c.args.places.now (named c.args.holder c.args.name.now) c.in-Err.field-0 c.requires refl
    c.in-Err.ensures.0 c.in-Err.ensures.1
