use Rattle.std.proofs.Common.{◌≡◌, ◌++◌, filter, take, vec_capacity}
use Rattle.finaliser.specs.Holding.{AreFreed, is_free}
use Rattle.finaliser.proofs.candidates.settle_free.Given as goal

abbrev pub invariant-loop-node : goal.invariant-loop-node
invariant-loop-node l = record {
  finals : l.finals.items ≡ l.initial.finals.items ++ filter (is_free l.held.nodes) (take l.node-index l.node-items);
  freed : AreFreed (filter (is_free l.held.nodes) (take l.node-index l.node-items)) l.initial.states.items l.states.items;
  capacity : vec_capacity l.finals ≡ vec_capacity l.initial.finals;
  states_capacity : vec_capacity l.states ≡ vec_capacity l.initial.states;
}
