use Rattle.std.proofs.Common.{arith}
use Rattle.tap_reader.proofs.LengthLemmas.{counting_step, counting_stop}
use Rattle.tap_reader.proofs.lengths.do_names_fit.Goals as goal

pub loop-at-preserved : goal.loop-at-preserved
loop-at-preserved c =
    let i = c.loop-at.invariant in
    let h = counting_step c.args.entries.now c.loop-at.at _ c.loop-at.parents.items c.count_entry.new.parents.items c.loop-at.left c.in-Some.rest c.in_ok-rest.field-0 c.loop-at-test.true i.within i.left i.parents c.in_ok-rest.ensures.left c.in-Some.is c.in_ok-rest.ensures.parents in
    record { within = omega (arith, i.within); left = h.0; parents = h.1 }

pub returns-in-None : goal.returns-in-None
returns-in-None c =
    let i = c.loop-at.invariant in
    counting_stop c.args.entries.now c.loop-at.at _ c.loop-at.parents.items c.loop-at.left c.in_ok-rest.field-0 c.loop-at-test.true i.within i.left i.parents c.in_ok-rest.ensures.left c.in-None.is
