use Rattle.std.proofs.Common.{◌≡◌, ◌+◌, ◌≤◌, length, map, drop}
use Rattle.tap_reader.specs.Cases.{names_len}
use Rattle.tap_reader.specs.Entries.{line_of}
use Rattle.tap_reader.specs.Naming.{named, parents}
use Rattle.tap_reader.specs.NameLengths.{with_partings}
use Rattle.tap_reader.proofs.lengths.do_names_fit.Given as goal

abbrev pub invariant-loop-at : goal.invariant-loop-at
invariant-loop-at l = record {
  within : l.at ≤ length l.entries;
  left : l.left + names_len (named (map line_of (drop l.at l.entries))) ≡ 536870912;
  parents : l.parents.items ≡ with_partings (parents (map line_of (drop l.at l.entries)));
}

abbrev pub decreases-loop-at : goal.decreases-loop-at
decreases-loop-at l = l.at
