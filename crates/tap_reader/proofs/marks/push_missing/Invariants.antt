use Rattle.std.proofs.Common.{◌≡◌, ◌+◌, ◌++◌, map, drop}
use Rattle.tap_reader.specs.Entries.{line_of}
use Rattle.tap_reader.specs.Completing.{missing_line}
use Rattle.tap_reader.specs.MarkWords.{unmarked}
use Rattle.tap_reader.proofs.marks.push_missing.Given as goal

abbrev pub invariant-loop-at : goal.invariant-loop-at
invariant-loop-at l =
    map line_of l.entries.items ++ map (missing_line l.level) (unmarked (1 + l.at) (drop l.at l.marks))
    ≡ map line_of l.fn.entries.items ++ map (missing_line l.level) (unmarked 1 l.marks)
