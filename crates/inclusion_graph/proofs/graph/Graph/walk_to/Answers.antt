use Rattle.std.proofs.Common.{[], ◌∷◌, zero, refl, arith}
use Rattle.std.proofs.lemmas.List.{length-map}
use Rattle.std.proofs.lemmas.Option.{slice_get_within}
use Rattle.inclusion_graph.specs.declared.search.Step.{Step}
use Rattle.inclusion_graph.specs.Searches.{nodes_of}
use Rattle.inclusion_graph.proofs.SearchLemmas.{reached_found}
use Rattle.inclusion_graph.proofs.graph.Graph.walk_to.Goals as goal

pub returns-in_default : goal.returns-in_default
returns-in_default c = λ reaches.
    c.in_default.ensures (reached_found c.args.self.now.edges (c.args.a ∷ []) c.in_ok-search.search.steps.items
    c.in_ok-search.ensures.all c.args.b (c.args.a, (zero, omega arith, refl), reaches))

pub walk_back-requires-clause-place : goal.walk_back-requires-clause-place
walk_back-requires-clause-place c =
    let steps = c.in_ok-search.search.steps.items in
    omega (arith, slice_get_within (nodes_of steps) c.in-Some.place c.args.b c.in-Some.ensures, length-map steps (λ (s : Step). s.node))
