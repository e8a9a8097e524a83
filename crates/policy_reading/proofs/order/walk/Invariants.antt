use Rattle.policy_reading.specs.Walked.{IsWalked, StaysSeen, steps_left}
use Rattle.policy_reading.proofs.order.walk.Given as goal

abbrev pub invariant-loop-last : goal.invariant-loop-last
invariant-loop-last l = record {
  walked : IsWalked l.graph l.marks l.path.items l.order.items;
  seen : StaysSeen l.initial.marks l.marks;
}

abbrev pub decreases-loop-last : goal.decreases-loop-last
decreases-loop-last l = steps_left l.graph l.marks l.path.items
