use Rattle.std.proofs.Common.{◌≡◌, ◌≤◌, drop, length}
use Rattle.verdict_lists.specs.Orders.{pairs_order}
use Rattle.verdict_lists.proofs.keys.compare_pairs.Given as goal

abbrev pub invariant-loop-at : goal.invariant-loop-at
invariant-loop-at l = record {
  left : pairs_order l.a l.b ≡ pairs_order (drop l.at l.a) (drop l.at l.b);
  within : l.at ≤ length l.b;
}
