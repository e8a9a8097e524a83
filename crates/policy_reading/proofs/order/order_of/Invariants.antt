use Rattle.std.proofs.Common.{◌≡◌, ◌<◌, ℕ, [], false}
use Rattle.policy_reading.specs.Walked.{IsWalked, is_unseen, mark_at}
use Rattle.policy_reading.proofs.order.order_of.Given as goal

abbrev pub invariant-loop-place : goal.invariant-loop-place
invariant-loop-place l = record {
  walked : IsWalked l.graph l.marks.items [] l.order.items;
  path : l.path.items ≡ [];
  met : (q : ℕ) → q < l.place → is_unseen (mark_at l.marks.items q) ≡ false;
}
