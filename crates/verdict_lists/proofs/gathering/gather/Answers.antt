use Rattle.std.proofs.Common.{List, subst}
use Rattle.verdict_lists.specs.declared.entries.Entry.{Entry}
use Rattle.verdict_lists.specs.Groups.{AreGrouped}
use Rattle.verdict_lists.specs.World.{world_of}
use Rattle.verdict_lists.proofs.NumberLemmas.{are_verdicts}
use Rattle.verdict_lists.proofs.VerdictLemmas.{verdicts_rise}
use Rattle.verdict_lists.proofs.gathering.gather.Goals as goal

pub number-requires : goal.number-requires
number-requires c =
    let world = world_of c.args.view.now in
    let cut = subst (λ (es : List Entry). AreGrouped world es c.in_ok-verdicts.verdicts.items) c.as_slice.ensures.value c.in_ok-verdicts.ensures in
    verdicts_rise world c.args.roots.now c.in_ok-entries.entries.items c.in_ok-verdicts.verdicts.items c.put_in_order.new.verdicts.items
    c.in_ok-entries.ensures cut c.put_in_order.ensures.permutation c.put_in_order.ensures.sorted

pub returns : goal.returns
returns c =
    let world = world_of c.args.view.now in
    let cut = subst (λ (es : List Entry). AreGrouped world es c.in_ok-verdicts.verdicts.items) c.as_slice.ensures.value c.in_ok-verdicts.ensures in
    are_verdicts world c.args.roots.now c.in_ok-entries.entries.items c.in_ok-verdicts.verdicts.items c.put_in_order.new.verdicts.items
    c.number.new.verdicts.items c.in_ok-entries.ensures cut c.put_in_order.ensures.permutation c.put_in_order.ensures.sorted
    c.in_ok-number.ensures.plain c.in_ok-number.ensures.numbered
