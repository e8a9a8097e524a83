use Rattle.std.proofs.Common.{sym, subst}
use Rattle.std.proofs.lemmas.Map.Keys.{IsStrictlyIncreasing-from_distinct}
use Rattle.std.proofs.lemmas.List.Sorted.{IsNonDecreasingBy-from_sort}
use Rattle.finaliser.specs.Holding.{IsNodeSet}
use Rattle.finaliser.proofs.NodeLemmas.{set_sorted}
use Rattle.finaliser.proofs.node_set.NodeSet.sort.Goals as goal

pub invariant_of-self : goal.invariant_of-self
invariant_of-self c =
    subst (IsNodeSet c.self.inside.marks.items c.sort_unstable.new.self.items) (sym c.sort_unstable.ensures.capacity)
    (set_sorted c.self.inside.marks.items c.self.inside.nodes.items c.sort_unstable.new.self.items c.self.inside.nodes.cap c.sort_unstable.ensures.permutation c.self.invariant)

pub returns-clause-rising : goal.returns-clause-rising
returns-clause-rising c =
    let kept = set_sorted c.self.inside.marks.items c.self.inside.nodes.items c.sort_unstable.new.self.items c.self.inside.nodes.cap c.sort_unstable.ensures.permutation c.self.invariant in
    IsStrictlyIncreasing-from_distinct c.sort_unstable.new.self.items
    (IsNonDecreasingBy-from_sort (λ n. n) c.sort_unstable.new.self.items c.sort_unstable.ensures.sorted) kept.distinct
