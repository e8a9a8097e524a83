use Rattle.std.proofs.Common.{ℕ, List, [], ◌++◌, take, drop, sym, ap, ◌∙◌, subst}
use Rattle.std.specs.List.{slice_set}
use Rattle.std.proofs.lemmas.List.{length-set, take-append-drop, take_rest}
use Rattle.inclusion_graph.specs.declared.edge.Edge.{Edge}
use Rattle.inclusion_graph.specs.Edges.{GraphState, edges_from}
use Rattle.inclusion_graph.specs.Plans.{Fits, PlanState}
use Rattle.inclusion_graph.specs.Searches.{HasMarks, IsListed}
use Rattle.inclusion_graph.proofs.EdgeLemmas.{listed_edges}
use Rattle.inclusion_graph.proofs.graph.Graph.add_edges.Goals as goal

pub invariant_of-self : goal.invariant_of-self
invariant_of-self c =
    let edges = c.self.inside.edges.edges in
    let lists = c.self.inside.targets.items in
    let plan = c.plan.inside in
    let all = plan.all.items in
    let planned = subst (λ (p : PlanState). Fits c.args.self.now p) (sym c.plan.view_is) c.requires in
    let plan_is : PlanState = record { from = plan.from; held = take plan.held all; targets = drop plan.held all } in
    let fits = subst (λ (g : GraphState). Fits g plan_is) (sym c.self.view_is) planned in
    let targets = take_rest c.deref.result.now plan.held ∙ ap (drop plan.held) c.deref.ensures.value in
    let is = c.add_from.ensures.roomier.edges ∙ ap (λ (ts : List ℕ). edges ++ edges_from plan.from ts) targets in (
      subst (λ (es : List Edge). IsListed es (slice_set lists plan.from plan.all)) (sym is)
          (listed_edges edges lists plan.from (drop plan.held all) plan.all c.self.invariant.0 fits.from
          (sym (take-append-drop plan.held all) ∙ ap (λ front. front ++ drop plan.held all) fits.held) fits.targets fits.few),
      c.add_from.ensures.roomier.nodes ∙ c.self.invariant.1 ∙ sym (length-set lists plan.from plan.all),
      subst (λ n. HasMarks c.self.inside.marks.items n []) (sym (length-set lists plan.from plan.all)) c.self.invariant.2,
    )
