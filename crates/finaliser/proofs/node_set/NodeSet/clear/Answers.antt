use Rattle.std.proofs.Common.{ℕ, List, sym, subst}
use Rattle.finaliser.specs.Holding.{IsNodeSet}
use Rattle.finaliser.proofs.NodeLemmas.{set_cleared}
use Rattle.finaliser.proofs.node_set.NodeSet.clear.Goals as goal

pub invariant_of-self : goal.invariant_of-self
invariant_of-self c =
    let marks = c.unmark.new.marks.items in
    subst (IsNodeSet marks c.clear.new.self.items) (sym c.clear.ensures.capacity)
    (subst (λ (ns : List ℕ). IsNodeSet marks ns c.self.inside.nodes.cap) (sym c.clear.ensures.items)
    (set_cleared c.self.inside.marks.items marks c.self.inside.nodes.items c.self.inside.nodes.cap c.self.invariant c.unmark.ensures.says))
