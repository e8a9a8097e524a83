use Rattle.std.proofs.Common.{◌≡◌, ◌+◌, drop}
use Rattle.tap_reader.specs.LineForms.{hash_place}
use Rattle.tap_reader.proofs.forms.find_hash.Given as goal

abbrev pub invariant-loop-at : goal.invariant-loop-at
invariant-loop-at l = hash_place 32 l.text ≡ l.at + hash_place l.before (drop l.at l.text)
