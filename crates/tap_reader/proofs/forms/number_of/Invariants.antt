use Rattle.std.proofs.Common.{◌≡◌, ◌+◌, ◌*◌, ◌^◌, ◌≤◌, drop}
use Rattle.tap_reader.specs.LineForms.{number_from}
use Rattle.tap_reader.proofs.forms.number_of.Given as goal

abbrev pub invariant-loop-byte : goal.invariant-loop-byte
invariant-loop-byte l =
    (number_from l.number (drop l.byte-index l.text) ≡ number_from 0 l.text) × (l.number + 23 ≤ 23 * 10 ^ l.byte-index)
