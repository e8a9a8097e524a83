use Rattle.std.proofs.Common.{◌≤◌}
use Rattle.std.specs.Prelude.{vec_capacity}
use Rattle.artifacts.specs.Batches.{AreOnce}
use Rattle.artifacts.specs.Orders.{IsFrontIndex}
use Rattle.artifacts.specs.Artifacts.{keys_of}
use Rattle.artifacts.proofs.keys.first_repeat.Given as goal

abbrev pub invariant-loop-next : goal.invariant-loop-next
invariant-loop-next l = record {
  index : IsFrontIndex (keys_of l.rows) l.next l.order.items;
  once : AreOnce l.rows l.next;
  capacity : vec_capacity l.initial.order ≤ vec_capacity l.order;
}
