use Rattle.std.proofs.Common.{◌-◌, ◌^◌, ◌<◌, sym, subst, arith}
use Rattle.tap_reader.specs.Completing.{State, closed_above, last_number}
use Rattle.tap_reader.specs.CompletingViews.{state_of}
use Rattle.tap_reader.proofs.BoundLemmas.{closed_above-below, last_number-below}
use Rattle.tap_reader.proofs.completing.Streams.add.Goals as goal

pub put-requires : goal.put-requires
put-requires c =
    let level = c.args.entry.now.level in
    let s = state_of c.args.self.now in
    let P : State → Type 0 = λ x. last_number level x.lines < 2 ^ 64 - 1 in
    subst P (sym c.in_ok-close_above.ensures)
    (last_number-below (2 ^ 64 - 1) level (closed_above c.args.fill level s).lines (omega arith)
    (closed_above-below (2 ^ 64 - 1) c.args.fill level s c.requires))
