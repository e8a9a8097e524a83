use Rattle.std.proofs.Common.{◌≡◌, ◌+◌, ◌≤◌, length, take, drop, ◌++◌}
use Rattle.std.specs.Prelude.{option_map}
use Rattle.tap_reader.specs.Lines.{lines}
use Rattle.tap_reader.specs.Counted.{until_end}
use Rattle.tap_reader.proofs.reading.find_end.Given as goal

abbrev pub invariant-loop-line : goal.invariant-loop-line
invariant-loop-line l = record {
  rest : lines l.rest ≡ drop l.count (lines l.text);
  body : until_end l.level (lines l.text) ≡ option_map (λ body. take l.count (lines l.text) ++ body) (until_end l.level (lines l.rest));
  within : l.count + length l.rest ≤ length l.text;
  count : l.count + length (lines l.rest) ≡ length (lines l.text);
}

abbrev pub decreases-loop-line : goal.decreases-loop-line
decreases-loop-line l = length l.rest
