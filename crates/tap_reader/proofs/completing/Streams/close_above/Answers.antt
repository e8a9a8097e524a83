use Rattle.std.proofs.Common.{◌-◌, sym, ap, ◌∙◌}
use Rattle.tap_reader.specs.Completing.{shut}
use Rattle.tap_reader.specs.CompletingViews.{state_of}
use Rattle.tap_reader.proofs.RunLemmas.{shut-step}
use Rattle.tap_reader.proofs.completing.Streams.close_above.Goals as goal

pub loop-at-preserved : goal.loop-at-preserved
loop-at-preserved c =
    ap (shut c.args.fill c.args.level (c.loop-at.at - 1 - c.args.level)) c.in_ok-close.ensures
    ∙ sym (shut-step c.args.fill c.args.level c.loop-at.at (state_of c.loop-at.self) c.loop-at-test.true)
    ∙ c.loop-at.invariant
