use Rattle.std.proofs.Common.{◌<◌, length, take, get_or, sym, subst, arith}
use Rattle.std.proofs.lemmas.List.{take_all, take_more}
use Rattle.inclusion_graph.specs.Searches.{HasMarks}
use Rattle.inclusion_graph.proofs.ListLemmas.{marks_more}
use Rattle.inclusion_graph.proofs.fresh.mark.Goals as goal

pub loop-node-preserved : goal.loop-node-preserved
loop-node-preserved c =
    let below = length c.args.marks.now.items in
    let nodes = c.args.nodes.now in
    let i = c.loop-node.node-index in
    let within : i < length nodes = omega arith in
    record {
      says = subst (HasMarks _ below) (sym (take_more nodes i 0 within))
          (marks_more c.loop-node.marks.items below (take i nodes) (get_or nodes i 0) (c.requires.low i 0 within) c.loop-node.invariant.says);
      capacity = c.loop-node.invariant.capacity;
    }

pub returns-clause-says : goal.returns-clause-says
returns-clause-says c =
    subst (HasMarks c.loop-node.marks.items (length c.args.marks.now.items)) (take_all c.loop-node.node-index c.args.nodes.now (omega arith))
    c.loop-node.invariant.says
