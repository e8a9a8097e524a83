use Rattle.std.proofs.Common.{◌<◌, length, ap, sym, subst}
use Rattle.std.specs.List.{All}
use Rattle.inclusion_graph.specs.declared.edge.Edge.{Edge}
use Rattle.inclusion_graph.specs.Edges.{GraphState}
use Rattle.inclusion_graph.proofs.graph.Graph.edges.Goals as goal

pub returns-clause-from : goal.returns-clause-from
returns-clause-from c =
    subst (λ n. All (λ (edge : Edge). edge.from < n) c.as_slice.result.now) (ap (λ (g : GraphState). g.nodes) c.self.view_is)
    (subst (All (λ (edge : Edge). edge.from < length c.self.inside.targets.items)) (sym c.as_slice.ensures) c.self.invariant.0.from)

pub returns-clause-to : goal.returns-clause-to
returns-clause-to c =
    subst (λ n. All (λ (edge : Edge). edge.to < n) c.as_slice.result.now) (ap (λ (g : GraphState). g.nodes) c.self.view_is)
    (subst (All (λ (edge : Edge). edge.to < length c.self.inside.targets.items)) (sym c.as_slice.ensures) c.self.invariant.0.to)
