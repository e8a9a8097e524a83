use Rattle.std.proofs.Common.{◌≡◌, drop}
use Rattle.tellers.specs.Exchange.{StandsForSome}
use Rattle.workload_turns.proofs.CourseLaws.{Continues}
use Rattle.workload_turns.proofs.asking.ask_all.Given as goal

abbrev pub invariant-loop-asked : goal.invariant-loop-asked
invariant-loop-asked g l = record {
  stands : StandsForSome g.T.Teller.stands l.teller;
  holds : g.T.Teller.holds l.teller ≡ g.T.Teller.holds l.fn.teller;
  goes : Continues g.T.Teller.stands l.fn.teller l.fn.tally l.requests l.teller l.tally (drop l.asked-index l.requests);
}
