use Rattle.std.proofs.Common.{◌∙◌, ap, arith, length, length-append, sym}
use Rattle.http_wire.proofs.PlainLaws.{so_far_none, some_more, some_closed, so_far_all}
use Rattle.http_wire.proofs.laws.there_is_a_reading.Goals as goal

pub messages-init : goal.messages-init
messages-init c = (_, so_far_none c.args.stream.now)

pub messages-preserved : goal.messages-preserved
messages-preserved c =
    some_more _ _ _ _ _ _ c.messages.invariant c.in-Message.ensures (sym c.closes.ensures ∙ c.if-closes.false) c.split_at.ensures.back

pub returns-then-closes : goal.returns-then-closes
returns-then-closes c = some_closed _ _ _ _ _ c.messages.invariant c.in-Message.ensures (sym c.closes.ensures ∙ c.if-closes.true)

pub returns-in-End : goal.returns-in-End
returns-in-End c = (_, so_far_all _ _ _ _ _ c.messages.invariant.1 c.in-End.ensures)

pub closes-requires : goal.closes-requires
closes-requires c = c.messages.invariant.1.few

pub overflow_add-before : goal.overflow_add-before
overflow_add-before c = let few = c.messages.invariant.1.few in omega (arith, few)

pub overflow_add-head : goal.overflow_add-head
overflow_add-head c =
    let so_far = c.messages.invariant.1 in
    let whole = ap length so_far.parts in
    let both = length-append so_far.text c.messages.rest.now in
    let fits = c.in-Message.ensures.fits in
    omega (arith, whole, both, fits)
