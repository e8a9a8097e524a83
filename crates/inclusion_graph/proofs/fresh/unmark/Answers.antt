use Rattle.std.proofs.Common.{refl}
use Rattle.inclusion_graph.proofs.FreshLemmas.{marks_left}
use Rattle.inclusion_graph.proofs.fresh.unmark.Goals as goal

pub loop-node-init : goal.loop-node-init
loop-node-init c = record {
  left = marks_left c.args.marks.now.items c.args.nodes.now c.requires.says;
  count = refl;
  capacity = refl;
}
