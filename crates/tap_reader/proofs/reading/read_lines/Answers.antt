use Rattle.std.proofs.Common.{◌^◌, List, map, sym, subst}
use Rattle.tap_reader.specs.Lines.{lines}
use Rattle.tap_reader.specs.Counted.{Line, counted}
use Rattle.tap_reader.specs.Entries.{line_of}
use Rattle.tap_reader.specs.Bounds.{AllBelow}
use Rattle.tap_reader.proofs.BoundLemmas.{below_front, counted-below}
use Rattle.tap_reader.proofs.reading.read_lines.Goals as goal

pub returns-clause-below : goal.returns-clause-below
returns-clause-below c =
    let P : List Line → Type 0 = λ ls. AllBelow (2 ^ 40) ls in
    let rest = counted c.loop-line.number 0 (lines c.loop-line.rest.now) in
    below_front (2 ^ 40) (map line_of c.loop-line.entries.items) rest
    (subst P (sym c.loop-line.invariant.lines) (counted-below c.args.first 0 (lines c.args.text.now)))
