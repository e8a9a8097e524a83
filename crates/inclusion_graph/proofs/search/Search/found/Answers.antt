use Rattle.std.proofs.Common.{◌≡◌, nat_eq, List, Contains, sym, ◌∙◌, subst, ap}
use Rattle.std.specs.List.{IsDistinct}
use Rattle.std.proofs.lemmas.Cmp.{nat_eq_equiv}
use Rattle.std.proofs.lemmas.Map.Keys.{IsDistinct-IsPermutation, IsStrictlyIncreasing-from_distinct}
use Rattle.std.proofs.lemmas.List.Sorted.{Contains-permutation, IsNonDecreasingBy-from_sort, IsPermutation-sym}
use Rattle.inclusion_graph.specs.declared.search.Step.{Step}
use Rattle.inclusion_graph.specs.Searches.{nodes_of}
use Rattle.inclusion_graph.proofs.SearchLemmas.{placed_distinct}
use Rattle.inclusion_graph.proofs.search.Search.found.Goals as goal

pub returns-clause-rising : goal.returns-clause-rising
returns-clause-rising c =
    let begun = c.in_ok-nodes.nodes.items in
    let nodes = c.sort_unstable.new.self.items in
    let is : begun ≡ nodes_of c.args.self.now.steps.items = c.in_ok-nodes.ensures ∙ ap (λ (ss : List Step). nodes_of ss) c.as_slice.ensures.value in
    let distinct : IsDistinct nat_eq begun = subst (IsDistinct nat_eq) (sym is)
    (placed_distinct c.args.self.now.places.entries c.args.self.now.steps.items c.requires) in
    IsStrictlyIncreasing-from_distinct nodes
    (IsNonDecreasingBy-from_sort (λ n. n) nodes c.sort_unstable.ensures.sorted)
    (IsDistinct-IsPermutation nat_eq nat_eq_equiv.symm begun nodes c.sort_unstable.ensures.permutation distinct)

pub returns-clause-all : goal.returns-clause-all
returns-clause-all c =
    let begun = c.in_ok-nodes.nodes.items in
    let nodes = c.sort_unstable.new.self.items in
    let p = c.sort_unstable.ensures.permutation in
    let is : begun ≡ nodes_of c.args.self.now.steps.items = c.in_ok-nodes.ensures ∙ ap (λ (ss : List Step). nodes_of ss) c.as_slice.ensures.value in
    λ n. (
      λ held. subst (λ ns. Contains ns n) is (Contains-permutation nodes begun n (IsPermutation-sym begun nodes p) held),
      λ held. Contains-permutation begun nodes n p (subst (λ ns. Contains ns n) (sym is) held),
    )
