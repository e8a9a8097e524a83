use Rattle.std.proofs.Common.{◌<◌, ℕ, List, length, refl, sym, ap, ◌∙◌, subst, arith}
use Rattle.std.specs.List.{All}
use Rattle.std.proofs.lemmas.Option.{slice_get_read}
use Rattle.inclusion_graph.specs.Edges.{GraphState, fresh, targets_of}
use Rattle.inclusion_graph.specs.Plans.{IsEdgeFault}
use Rattle.inclusion_graph.specs.declared.plan.EdgeFault.TheVariants.{Memory}
use Rattle.inclusion_graph.proofs.EdgeLemmas.{targets_within}
use Rattle.inclusion_graph.proofs.graph.Graph.fault_without_memory.Goals as goal

pub count_new-new-requires-clause-within : goal.count_new-new-requires-clause-within
count_new-new-requires-clause-within c =
    let edges = c.self.inside.edges.edges in
    let lists = c.self.inside.targets.items in
    let list = c.index.result.now in
    let within : c.args.from < length lists = subst (λ (g : GraphState). c.args.from < g.nodes) (sym c.self.view_is) c.requires.from in
    let is = c.as_slice-held.ensures.value ∙ c.self.invariant.0.lists c.args.from list
    (slice_get_read lists (length lists) c.args.from list refl within c.index.ensures) in
    subst (λ (ts : List ℕ). All (λ t. t < length c.self.inside.marks.items) ts) (sym is)
    (subst (λ n. All (λ t. t < n) (targets_of edges c.args.from)) (sym c.self.invariant.2.0) (targets_within edges c.args.from (length lists) c.self.invariant.0.to))

pub returns-clause-fault : goal.returns-clause-fault
returns-clause-fault c =
    let edges = c.self.inside.edges.edges in
    let lists = c.self.inside.targets.items in
    let list = c.index.result.now in
    let within : c.args.from < length lists = subst (λ (g : GraphState). c.args.from < g.nodes) (sym c.self.view_is) c.requires.from in
    let is = c.as_slice-held.ensures.value ∙ c.self.invariant.0.lists c.args.from list
    (slice_get_read lists (length lists) c.args.from list refl within c.index.ensures) in
    let count = c.count_new-new.ensures.count ∙ ap (λ (ts : List ℕ). length (fresh ts c.args.targets.now)) is in
    subst (λ (g : GraphState). IsEdgeFault g c.args.from c.args.targets.now Memory) c.self.view_is
    (c.requires.elsewhere, omega (arith, count, c.if-new-count.false, c.len-count.ensures, c.self.invariant.0.few))
