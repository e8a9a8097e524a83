use Rattle.std.proofs.Common.{◌<◌, ℕ, List, length, refl, sym, ap, ◌∙◌, subst}
use Rattle.std.specs.List.{All}
use Rattle.std.proofs.lemmas.Option.{slice_get_read}
use Rattle.inclusion_graph.specs.Edges.{GraphState, targets_of}
use Rattle.inclusion_graph.proofs.EdgeLemmas.{targets_within}
use Rattle.inclusion_graph.proofs.graph.Graph.targets.Goals as goal

pub returns-clause-within : goal.returns-clause-within
returns-clause-within c =
    let edges = c.self.inside.edges.edges in
    let lists = c.self.inside.targets.items in
    let list = c.index.result.now in
    let count = ap (λ (g : GraphState). g.nodes) c.self.view_is in
    let within : c.args.node < length lists = subst (λ (g : GraphState). c.args.node < g.nodes) (sym c.self.view_is) c.requires in
    let is = c.as_slice.ensures.value ∙ c.self.invariant.0.lists c.args.node list
    (slice_get_read lists (length lists) c.args.node list refl within c.index.ensures) in
    subst (λ (ts : List ℕ). All (λ t. t < c.args.self.now.nodes) ts) (sym is)
    (subst (λ n. All (λ t. t < n) (targets_of edges c.args.node)) count (targets_within edges c.args.node (length lists) c.self.invariant.0.to))
