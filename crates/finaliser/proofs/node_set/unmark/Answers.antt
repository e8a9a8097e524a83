use Rattle.std.proofs.Common.{refl}
use Rattle.finaliser.proofs.NodeLemmas.{left_all}
use Rattle.finaliser.proofs.node_set.unmark.Goals as goal

pub loop-node-init : goal.loop-node-init
loop-node-init c = record {
  left = left_all c.args.marks.now.items c.args.nodes.now c.requires.says;
  count = refl;
  capacity = refl;
}
