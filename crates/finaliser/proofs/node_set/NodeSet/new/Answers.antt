use Rattle.finaliser.proofs.NodeLemmas.{set_empty}
use Rattle.finaliser.proofs.node_set.NodeSet.new.Goals as goal

pub invariant_of-result : goal.invariant_of-result
invariant_of-result c =
    set_empty c.new.result.items c.new-2.result.items c.new-2.result.cap c.new.ensures.items c.new-2.ensures.items
