use Rattle.std.proofs.Common.{◌≡◌, ◌≤◌, length, take, drop}
use Rattle.tap_reader.specs.Lines.{lines}
use Rattle.tap_reader.specs.MessageWords.{front_of}
use Rattle.tap_reader.proofs.messages.read_front.Given as goal

abbrev pub invariant-loop-at : goal.invariant-loop-at
invariant-loop-at l = record {
  within : l.at ≤ length (lines l.diagnostic);
  rest : lines l.rest ≡ drop l.at (lines l.diagnostic);
  front : l.out.items ≡ front_of l.level (take l.at (lines l.diagnostic));
  most : length l.out.items ≤ 1024;
}
