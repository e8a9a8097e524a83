use Rattle.inclusion_graph.proofs.SearchLemmas.{found_reached, reached_found}
use Rattle.std.proofs.Common.{length}
use Rattle.inclusion_graph.proofs.graph.Graph.reach.Goals as goal

pub returns-clause-all : goal.returns-clause-all
returns-clause-all c =
    let edges = c.args.self.now.edges in
    let roots = c.args.roots.now in
    let steps = c.in_ok-search.search.steps.items in
    let searched = c.in_ok-search.ensures.all in
    λ node. (
      λ held. found_reached edges roots steps (length steps) searched node ((c.in_ok-nodes.ensures.all node).0 held),
      λ reached. (c.in_ok-nodes.ensures.all node).1 (reached_found edges roots steps searched node reached),
    )
