use Rattle.std.proofs.Common.{◌≡◌, ◌+◌, true, option_map, drop}
use Rattle.name_parts.specs.Parts.{key_place_from}
use Rattle.name_parts.proofs.texts.bad_in_key.Given as goal

abbrev pub invariant-loop-at : goal.invariant-loop-at
invariant-loop-at l = key_place_from true l.text ≡ option_map (λ n. l.at + n) (key_place_from l.at_start (drop l.at l.text))
