use Rattle.std.proofs.Common.{◌<◌, None, length, get_or, arith}
use Rattle.request_rules.specs.Broken.{Lacks}
use Rattle.request_rules.proofs.Firsts.{read_same}
use Rattle.request_rules.proofs.RightLaws.{rights_here_first, rights_on}
use Rattle.request_rules.proofs.rights.Asker.lacks_in.Goals as goal

pub returns-in-Some : goal.returns-in-Some
returns-in-Some c =
    let places = c.args.places.now in
    let i = c.loop-place.place-index in
    let place = get_or places i None in
    let lt : i < length places = omega arith in
    c.loop-place.invariant _
    (rights_here_first (Lacks c.args.self.now.policy.now c.args.self.now.caller) c.args.table.now.rows c.args.takes.now places i place lt
    (read_same places i place None lt) c.in-Some.lacking c.in-Some.ensures)

pub loop-place-preserved : goal.loop-place-preserved
loop-place-preserved c = λ found rest.
    let places = c.args.places.now in
    let i = c.loop-place.place-index in
    let place = get_or places i None in
    let lt : i < length places = omega arith in
    c.loop-place.invariant found
    (rights_on (Lacks c.args.self.now.policy.now c.args.self.now.caller) c.args.table.now.rows c.args.takes.now places i place lt
    (read_same places i place None lt) c.in_default.ensures found rest)
