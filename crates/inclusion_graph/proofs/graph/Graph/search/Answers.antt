use Rattle.std.proofs.Common.{◌≡◌, ◌<◌, ℕ, List, Some, None, length, sym, ap, subst, arith}
use Rattle.std.specs.List.{All}
use Rattle.std.proofs.lemmas.List.{length-append}
use Rattle.std.proofs.lemmas.List.Elements.{All-nil}
use Rattle.inclusion_graph.specs.declared.search.Step.{Step}
use Rattle.inclusion_graph.specs.Searches.{IsGrown, IsSearched}
use Rattle.inclusion_graph.proofs.EdgeLemmas.{targets_are}
use Rattle.inclusion_graph.proofs.SearchLemmas.{found_few, grown_within, node_at, searched_more, searched_start}
use Rattle.inclusion_graph.proofs.graph.Graph.search.Goals as goal

pub steps-init : goal.steps-init
steps-init c =
    let none = c.new-search.result.steps.items in
    let steps = c.add_all.new.self.steps.items in
    let grown = c.in_ok-add_all.ensures.grown in
    record {
      placed = c.in_ok-add_all.ensures.placed;
      nodes = grown_within (λ n. n < c.args.self.now.nodes) c.args.roots.now None none steps c.requires
          (subst (All (λ (s : Step). s.node < c.args.self.now.nodes)) (sym c.new-search.ensures.none) (All-nil (λ (s : Step). s.node < c.args.self.now.nodes))) grown;
      all = searched_start c.args.self.now.edges c.args.roots.now none steps c.new-search.ensures.none grown;
      within = omega arith;
    }

pub steps-smaller : goal.steps-smaller
steps-smaller c =
    let steps = c.steps.search.steps.items in
    let few = found_few c.steps.search.places.entries steps c.args.self.now.nodes c.steps.invariant.placed c.steps.invariant.nodes in
    omega (arith, few, c.steps-test.true, c.steps.search.steps.ok.0)

pub steps-preserved : goal.steps-preserved
steps-preserved c =
    let edges = c.args.self.now.edges in
    let steps = c.steps.search.steps.items in
    let new = c.add_all-in-steps.new.self.steps.items in
    let step = c.index.result.now in
    let within : c.steps.at < length steps = omega (arith, c.steps-test.true, c.steps.search.steps.ok.0) in
    let grown = subst (λ (ts : List ℕ). IsGrown ts (Some c.steps.at) steps new) c.targets.ensures.targets c.in_ok-add_all-2.ensures.grown in
    record {
      placed = c.in_ok-add_all-2.ensures.placed;
      nodes = grown_within (λ n. n < c.args.self.now.nodes) c.targets.result.now (Some c.steps.at) steps new c.targets.ensures.within
          c.steps.invariant.nodes c.in_ok-add_all-2.ensures.grown;
      all = searched_more edges c.args.roots.now steps new c.steps.at step.node c.steps.invariant.all
          (node_at steps c.steps.at step within c.index.ensures) (targets_are edges step.node) grown;
      within = omega (arith, ap (λ (ss : List Step). length ss) grown.is, length-append steps grown.more);
    }

pub returns-clause-all : goal.returns-clause-all
returns-clause-all c =
    let steps = c.steps.search.steps.items in
    let at : c.steps.at ≡ length steps = omega (arith, c.steps-test.false, c.steps.invariant.within, c.steps.search.steps.ok.0) in
    subst (IsSearched c.args.self.now.edges c.args.roots.now steps) at c.steps.invariant.all
