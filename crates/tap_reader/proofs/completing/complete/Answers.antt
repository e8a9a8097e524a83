use Rattle.std.proofs.Common.{◌-◌, ◌^◌, subst, arith}
use Rattle.tap_reader.specs.Completing.{State}
use Rattle.tap_reader.specs.CompletingViews.{state_of}
use Rattle.tap_reader.specs.Bounds.{AllBelow}
use Rattle.tap_reader.proofs.BoundLemmas.{run_small, run_step}
use Rattle.tap_reader.proofs.completing.complete.Goals as goal

pub add-requires : goal.add-requires
add-requires c =
    let P : State → Type 0 = λ s. AllBelow (2 ^ 64 - 1) s.lines in
    subst P c.loop-entry.invariant (run_small c.args.fill c.args.lines.now c.loop-entry.entry-index (omega (arith, c.requires.room)) c.requires.below)

pub loop-entry-preserved : goal.loop-entry-preserved
loop-entry-preserved c =
    run_step c.args.fill c.args.lines.now c.loop-entry.entry-index _ (state_of c.loop-entry.streams) (state_of c.add.new.self) (omega arith) c.loop-entry.invariant c.in_ok-add.ensures
