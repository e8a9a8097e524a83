use Rattle.std.proofs.Common.{refl, arith}
use Rattle.finaliser.proofs.WatchLemmas.{watched_itself}
use Rattle.finaliser.proofs.aims.aim_at.Goals as goal

pub nodes-init : goal.nodes-init
nodes-init c = record {
  watched = watched_itself c.args.graph.now.edges c.args.states.now c.args.watches.now.items c.aim_source.new.watches.items c.args.node
      c.requires.watched c.aim_source.ensures.watches c.requires.node;
  same = record { below = refl; spare = omega arith };
  capacity = refl;
}
