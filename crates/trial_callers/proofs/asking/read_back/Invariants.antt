use Rattle.std.proofs.Common.{◌≤◌, ◌+◌}
use Rattle.tellers.specs.Exchange.{StandsForSome}
use Rattle.trial_callers.specs.Working.{HasRead}
use Rattle.trial_callers.proofs.asking.read_back.Given as goal

abbrev pub invariant-loop-index : goal.invariant-loop-index
invariant-loop-index g l = record {
  read : HasRead g.T.Teller.stands l.fn.teller l.teller l.fn.last l.fn.heard l.all;
  again : StandsForSome g.T.Teller.stands l.teller;
  most : l.all.calls ≤ l.fn.heard.calls + l.index;
}
