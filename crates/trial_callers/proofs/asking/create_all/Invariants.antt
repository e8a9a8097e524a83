use Rattle.std.proofs.Common.{◌≤◌}
use Rattle.tellers.specs.Exchange.{StandsForSome}
use Rattle.trial_callers.specs.Working.{HasCreated}
use Rattle.trial_callers.proofs.asking.create_all.Given as goal

abbrev pub invariant-loop-index : goal.invariant-loop-index
invariant-loop-index g l = record {
  created : HasCreated g.T.Teller.stands l.fn.teller l.teller l.heard l.last;
  again : StandsForSome g.T.Teller.stands l.teller;
  most : l.heard.calls ≤ l.index;
}
