use Rattle.std.proofs.Common.{◌≡◌, ◌<◌, ℕ, true, false, List, length, get_or, set, sym, subst, arith}
use Rattle.std.proofs.lemmas.Grind.{common_steps}
use Rattle.finaliser.specs.Holding.{IsNodeSet, NodeSetState}
use Rattle.finaliser.proofs.NodeLemmas.{set_add, set_room}
use Rattle.finaliser.proofs.node_set.NodeSet.add.Goals as goal

pub push_reserved-requires : goal.push_reserved-requires
push_reserved-requires c =
    let marks = c.self.inside.marks.items in
    let within : c.args.node < length marks = subst (λ (s : NodeSetState). c.args.node < s.below) (sym c.self.view_is) c.requires in
    let not : get_or marks c.args.node false ≡ false = grind (arith, common_steps) in
    omega (arith, set_room marks c.self.inside.nodes.items c.self.inside.nodes.cap c.args.node within not c.self.invariant, c.self.inside.nodes.ok.0)

pub invariant_of-self : goal.invariant_of-self
invariant_of-self c =
    let marks = c.self.inside.marks.items in
    let nodes = c.self.inside.nodes.items in
    let within : c.args.node < length marks = subst (λ (s : NodeSetState). c.args.node < s.below) (sym c.self.view_is) c.requires in
    let not : get_or marks c.args.node false ≡ false = grind (arith, common_steps) in
    subst (IsNodeSet (set marks c.args.node true) c.push_reserved.new.self.items) (sym c.push_reserved.ensures.capacity)
    (subst (λ (ns : List ℕ). IsNodeSet (set marks c.args.node true) ns c.self.inside.nodes.cap) (sym c.push_reserved.ensures.items)
    (set_add marks nodes c.self.inside.nodes.cap c.args.node within not c.self.invariant))
