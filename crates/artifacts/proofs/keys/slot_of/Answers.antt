use Rattle.std.proofs.Common.{get_or}
use Rattle.std.proofs.lemmas.List.{get_or_default}
use Rattle.artifacts.specs.Artifacts.{key_of, keys_of}
use Rattle.artifacts.proofs.KeyLemmas.{found_at}
use Rattle.artifacts.proofs.TableLemmas.{has_key}
use Rattle.artifacts.proofs.keys.slot_of.Goals as goal

-- a key that no row has isn't found
pub returns-in-Ok : goal.returns-in-Ok
returns-in-Ok c =
    let places = c.args.places.now in
    let keys = keys_of c.args.rows.now in
    let row = c.args.row.now in
    let at = c.in-Ok.at in
    let place = get_or places at 0 in
    absurd (c.requires.free (has_key keys place (key_of row)
    (found_at keys row.holder places (key_of row) at place c.requires.index c.in-Ok.ensures.0 c.in-Ok.ensures.1 (get_or_default places at 0 place c.in-Ok.ensures.0))))
