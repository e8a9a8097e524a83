use Rattle.std.proofs.Common.{List, Option, sym, subst}
use Rattle.inclusion_graph.specs.declared.edge_list.Ends.{Ends}
use Rattle.inclusion_graph.specs.Links.{AreLinked}
use Rattle.inclusion_graph.proofs.LinkLemmas.{linked_node}
use Rattle.inclusion_graph.proofs.edge_list.EdgeList.add_node.Goals as goal

pub invariant_of-self : goal.invariant_of-self
invariant_of-self c =
    subst (λ (ends : List (Option Ends)). AreLinked c.self.inside.edges.items c.self.inside.next.items ends) (sym c.push_reserved.ensures.items)
    (linked_node c.self.inside.edges.items c.self.inside.next.items c.self.inside.ends.items c.self.invariant)
