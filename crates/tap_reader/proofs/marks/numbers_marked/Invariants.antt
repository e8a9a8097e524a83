use Rattle.std.proofs.Common.{◌≡◌, ℕ, ◌+◌, ◌<◌, length, map, take, get_or, false}
use Rattle.std.specs.List.{list_any}
use Rattle.tap_reader.specs.Entries.{line_of}
use Rattle.tap_reader.specs.Streams.{says_number}
use Rattle.tap_reader.specs.Completing.{at_level}
use Rattle.tap_reader.proofs.marks.numbers_marked.Given as goal

abbrev pub invariant-loop-entry : goal.invariant-loop-entry
invariant-loop-entry l = record {
  len : length l.marks.items ≡ l.count;
  marks : (i : ℕ) → i < l.count → get_or l.marks.items i false
      ≡ list_any (λ x. says_number (1 + i) x.said) (at_level l.level (map line_of (take l.entry-index l.entries)));
}
