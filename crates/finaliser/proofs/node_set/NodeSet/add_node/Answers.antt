use Rattle.std.proofs.Common.{◌<◌, Bool, List, length, sym, subst, arith}
use Rattle.finaliser.specs.Holding.{IsNodeSet, NodeSetState}
use Rattle.finaliser.proofs.NodeLemmas.{set_node}
use Rattle.finaliser.proofs.node_set.NodeSet.add_node.Goals as goal

pub invariant_of-self : goal.invariant_of-self
invariant_of-self c =
    let marks = c.self.inside.marks.items in
    let room = subst (λ (s : NodeSetState). 0 < s.spare) (sym c.self.view_is) c.requires in
    let low : length marks < c.self.inside.nodes.cap = omega (arith, room, c.self.inside.marks.ok.0) in
    subst (λ (ms : List Bool). IsNodeSet ms c.self.inside.nodes.items c.self.inside.nodes.cap) (sym c.push_reserved.ensures.items)
    (set_node marks c.self.inside.nodes.items c.self.inside.nodes.cap low c.self.invariant)
