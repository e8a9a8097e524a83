use Rattle.std.proofs.Common.{◌≡◌, ◌≤◌, length, map, drop}
use Rattle.std.specs.Prelude.{reverse}
use Rattle.tap_reader.specs.Entries.{line_of}
use Rattle.tap_reader.specs.Naming.{named, parents}
use Rattle.tap_reader.specs.NamingViews.{names_of}
use Rattle.tap_reader.proofs.cases.name_cases.Given as goal

abbrev pub invariant-loop-at : goal.invariant-loop-at
invariant-loop-at l = record {
  within : l.at ≤ length l.entries;
  cases : reverse l.cases.items ≡ named (map line_of (drop l.at l.entries));
  path : names_of l.path.items ≡ parents (map line_of (drop l.at l.entries));
}

abbrev pub decreases-loop-at : goal.decreases-loop-at
decreases-loop-at l = l.at
