use Rattle.std.proofs.Common.{◌≡◌}
use Rattle.tellers.specs.Exchange.{StandsForSome}
use Rattle.workload_turns.proofs.PageLaws.{ContinuesPages}
use Rattle.workload_turns.proofs.pages.Pages.read.Given as goal

abbrev pub invariant-pages : goal.invariant-pages
invariant-pages g l = record {
  stands : StandsForSome g.T.Teller.stands l.teller;
  holds : g.T.Teller.holds l.teller ≡ g.T.Teller.holds l.fn.teller;
  goes : ContinuesPages g.T.Teller.stands l.self.number l.fn.teller l.fn.tally l.teller l.tally l.behind;
}
