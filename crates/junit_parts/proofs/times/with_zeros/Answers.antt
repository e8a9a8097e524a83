use Rattle.std.proofs.Common.{◌∙◌, arith}
use Rattle.junit_parts.proofs.TimeLemmas.{ten_times}
use Rattle.junit_parts.proofs.times.with_zeros.Goals as goal

pub loop-preserved : goal.loop-preserved
loop-preserved c =
    let at = c.loop in
    let more = ten_times c.args.number at.counter at.number at.invariant.same in
    record { same = c.min-number.ensures ∙ more; few = omega (arith, c.min-number.ensures) }
