use Rattle.std.proofs.Common.{◌≤◌}
use Rattle.std.specs.Prelude.{vec_capacity}
use Rattle.test_results.specs.Batches.{AreOnce}
use Rattle.test_results.specs.Orders.{IsFrontIndex}
use Rattle.test_results.specs.Results.{keys_of}
use Rattle.test_results.proofs.keys.first_repeat.Given as goal

abbrev pub invariant-loop-next : goal.invariant-loop-next
invariant-loop-next l = record {
  index : IsFrontIndex (keys_of l.rows) l.next l.order.items;
  once : AreOnce l.rows l.next;
  capacity : vec_capacity l.initial.order ≤ vec_capacity l.order;
}
