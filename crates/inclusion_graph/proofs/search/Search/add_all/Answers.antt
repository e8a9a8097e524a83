use Rattle.std.proofs.Common.{ℕ, List, take, get_or, sym, subst, arith}
use Rattle.std.proofs.lemmas.List.{take_more}
use Rattle.inclusion_graph.specs.Searches.{IsGrown}
use Rattle.inclusion_graph.proofs.SearchLemmas.{grown_more}
use Rattle.inclusion_graph.proofs.search.Search.add_all.Goals as goal

pub loop-node-preserved : goal.loop-node-preserved
loop-node-preserved c =
    let nodes = c.args.nodes.now in
    let i = c.loop-node.node-index in
    let steps = c.args.self.now.steps.items in
    let more = take_more nodes i 0 (omega arith) in
    record {
      placed = c.in_ok-add.ensures.placed;
      grown = subst (λ (ns : List ℕ). IsGrown ns c.args.back steps c.add.new.self.steps.items) (sym more)
          (grown_more (take i nodes) (get_or nodes i 0) c.args.back steps c.loop-node.self.steps.items c.add.new.self.steps.items
          c.loop-node.invariant.grown c.in_ok-add.ensures.steps);
    }
