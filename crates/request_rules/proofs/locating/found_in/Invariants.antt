use Rattle.std.proofs.Common.{◌≡◌, take}
use Rattle.request_rules.specs.Named.{all_found}
use Rattle.request_rules.proofs.locating.found_in.Given as goal

abbrev pub invariant-loop-place : goal.invariant-loop-place
invariant-loop-place l = l.found.items ≡ all_found (take l.place-index l.places)
