use Rattle.std.proofs.Common.{sym, subst}
use Rattle.permissions.specs.Graph.{IsGraph}
use Rattle.policy_reading.proofs.OrderFacts.{ordered_no_cycle}
use Rattle.permissions.proofs.ReachLemmas.{graph-IsGraph}
use Rattle.policy_reading.proofs.reading.checked_order.Goals as goal

pub order_of-requires : goal.order_of-requires
order_of-requires c = subst IsGraph (sym c.requires) (graph-IsGraph c.args.book.now)

pub returns-in-Some-clause-ok : goal.returns-in-Some-clause-ok
returns-in-Some-clause-ok c =
    let h = rw c.in-Some.is at c.in_ok-order.ensures in
    (ordered_no_cycle c.args.book.now c.args.graph.now c.in-Some.order.items c.requires h, h)
