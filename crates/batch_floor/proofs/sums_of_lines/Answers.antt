use Rattle.std.proofs.Common.{◌+◌, sym, subst}
use Rattle.std.proofs.lemmas.List.{take_rest}
use Rattle.memchr.specs.Find.{IsFirstByte, is_byte}
use Rattle.batch_floor.proofs.LineLemmas.{SumsSoFar, summed_more, summed_all}
use Rattle.batch_floor.proofs.sums_of_lines.Goals as goal

pub loop-end-preserved : goal.loop-end-preserved
loop-end-preserved c =
    let so = c.loop-end.invariant in
    let rest = c.loop-end.rest.now in
    let found = subst (λ r. IsFirstByte (is_byte 10) rest r) c.in-Some.is c.memchr.ensures in
    let step = c.in_ok-sums.ensures so.rows so.sums_are in
    subst (λ xs. SumsSoFar c.args.input.now xs c.in_ok-sums.sums) (sym (take_rest rest (c.in-Some.end + 1)))
    (summed_more c.args.input.now rest c.in-Some.end step.0 c.loop-end.sums so found step.1 step.2 c.in_ok-sums.sums step.3)

pub returns : goal.returns
returns c =
    let none = subst (λ r. IsFirstByte (is_byte 10) c.loop-end.rest.now r) c.in_default.is c.memchr.ensures in
    summed_all c.args.input.now c.loop-end.rest.now c.loop-end.sums c.loop-end.invariant none
