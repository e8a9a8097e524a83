use Rattle.std.proofs.Common.{◌+◌, ◌*◌, arith, ap, ◌∙◌}
use Rattle.http_wire.proofs.DigitLaws.{digit_step}
use Rattle.http_wire.proofs.LengthLaws.{digits_of_length}
use Rattle.sink_replies.proofs.lengths.number.Goals as goal

pub overflow_mul-number : goal.overflow_mul-number
overflow_mul-number c =
    let d = digits_of_length c.args.digits.now c.requires in
    let s = digit_step c.args.digits.now c.loop-digit.digit-index c.loop-digit.number d.1 d.0 c.loop-digit-test.true c.loop-digit.invariant in
    let small = s.2 in
    omega (arith, small)

pub overflow_sub-digit : goal.overflow_sub-digit
overflow_sub-digit c =
    let d = digits_of_length c.args.digits.now c.requires in
    (digit_step c.args.digits.now c.loop-digit.digit-index c.loop-digit.number d.1 d.0 c.loop-digit-test.true c.loop-digit.invariant).0

pub overflow_add-number : goal.overflow_add-number
overflow_add-number c =
    let d = digits_of_length c.args.digits.now c.requires in
    let s = digit_step c.args.digits.now c.loop-digit.digit-index c.loop-digit.number d.1 d.0 c.loop-digit-test.true c.loop-digit.invariant in
    let small = s.2 in
    let from = c.from.ensures in
    omega (arith, small, from)

pub loop-digit-preserved : goal.loop-digit-preserved
loop-digit-preserved c =
    let d = digits_of_length c.args.digits.now c.requires in
    let s = digit_step c.args.digits.now c.loop-digit.digit-index c.loop-digit.number d.1 d.0 c.loop-digit-test.true c.loop-digit.invariant in
    ap (λ d. c.loop-digit.number * 10 + d) c.from.ensures ∙ s.1
