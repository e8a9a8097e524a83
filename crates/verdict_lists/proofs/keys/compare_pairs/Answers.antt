use Rattle.std.proofs.Common.{sym, ◌∙◌, arith}
use Rattle.verdict_lists.specs.Orders.{pair_order}
use Rattle.verdict_lists.proofs.TallyLemmas.{ended, longer}
use Rattle.verdict_lists.proofs.keys.compare_pairs.Goals as goal

pub returns-then-at-b : goal.returns-then-at-b
returns-then-at-b c =
    sym (c.loop-at.invariant.left ∙ longer pair_order c.args.a.now c.args.b.now c.loop-at.at (omega arith) (omega arith))

pub returns : goal.returns
returns c =
    c.cmp.ensures
    ∙ sym (c.loop-at.invariant.left ∙ ended pair_order c.args.a.now c.args.b.now c.loop-at.at (omega arith) (omega arith) c.loop-at.invariant.within)
