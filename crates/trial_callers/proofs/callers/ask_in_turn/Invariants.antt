use Rattle.std.proofs.Common.{◌≤◌, ◌*◌, ◌^◌}
use Rattle.tellers.specs.Exchange.{StandsForSome}
use Rattle.trial_callers.specs.Counting.{HasAskedAll}
use Rattle.trial_callers.proofs.callers.ask_in_turn.Given as goal

abbrev pub invariant-loop-number : goal.invariant-loop-number
invariant-loop-number g l = record {
  asked : HasAskedAll g.T.Teller.stands l.fn.teller l.teller l.sum;
  again : StandsForSome g.T.Teller.stands l.teller;
  few : l.sum.calls ≤ l.number * 2 ^ 33;
}
