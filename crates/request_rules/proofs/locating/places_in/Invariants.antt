use Rattle.std.proofs.Common.{◌≡◌, take}
use Rattle.request_rules.specs.Named.{places_in}
use Rattle.request_rules.proofs.locating.places_in.Given as goal

abbrev pub invariant-loop-id : goal.invariant-loop-id
invariant-loop-id l = l.places.items ≡ places_in l.table.rows (take l.id-index l.ids)
