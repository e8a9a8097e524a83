use Rattle.std.proofs.Common.{◌≡◌, ◌<◌, ◌+◌, ◌++◌, ◌∷◌, [], Bool, false, List, Vec, ℕ, Global, length, sym, ap, subst, arith}
use Rattle.std.proofs.lemmas.List.{length_push}
use Rattle.inclusion_graph.specs.declared.edge.Edge.{Edge}
use Rattle.inclusion_graph.specs.Edges.{GraphState}
use Rattle.inclusion_graph.specs.Searches.{HasMarks, IsListed}
use Rattle.inclusion_graph.proofs.EdgeLemmas.{listed_node}
use Rattle.inclusion_graph.proofs.FreshLemmas.{marks_node}
use Rattle.inclusion_graph.proofs.graph.Graph.add_node.Goals as goal

pub invariant_of-self : goal.invariant_of-self
invariant_of-self c =
    let room = subst (λ (g : GraphState). 0 < g.spare_nodes) (sym c.self.view_is) c.requires in
    let few : length c.self.inside.targets.items < 4_294_967_295 = omega (arith, c.self.inside.targets.ok.0) in
    let more : length c.push_reserved.new.self.items ≡ length c.self.inside.targets.items + 1 =
    omega (arith, length_push c.self.inside.targets.items c.new-none.result, ap (λ (ts : List (Vec ℕ Global)). length ts) c.push_reserved.ensures.items) in (
      subst (λ (es : List Edge). IsListed es c.push_reserved.new.self.items) (sym c.add_node.ensures.roomier.edges)
          (subst (λ (ts : List (Vec ℕ Global)). IsListed c.self.inside.edges.edges ts) (sym c.push_reserved.ensures.items)
          (listed_node c.self.inside.edges.edges c.self.inside.targets.items c.new-none.result c.self.invariant.0 c.new-none.ensures.items few)),
      omega (arith, c.self.invariant.1, c.add_node.ensures.roomier.nodes, more),
      subst (λ (ms : List Bool). HasMarks ms (length c.push_reserved.new.self.items) []) (sym c.push_reserved-2.ensures.items)
          (subst (λ n. HasMarks (c.self.inside.marks.items ++ false ∷ []) n []) (sym more)
          (marks_node c.self.inside.marks.items (length c.self.inside.targets.items) c.self.invariant.2)),
    )
