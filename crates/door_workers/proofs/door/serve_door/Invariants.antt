use Rattle.std.proofs.Common.{◌≡◌, false}
use Rattle.tellers.specs.Exchange.{StandsForSome}
use Rattle.door_workers.specs.Work.{Work}
use Rattle.door_workers.specs.Workers.{WasAsked}
use Rattle.door_workers.proofs.door.serve_door.Given as goal

abbrev pub invariant-links : goal.invariant-links
invariant-links g l = record {
  work : Work g.A.L.Link.ends g.A.L.Link.holds (WasAsked g.T.Teller.stands l.fn.teller l.teller)
      (g.A.Door.tells l.fn.door) l.tally (g.A.Door.tells l.door);
  faults : (g.A.Door.tells l.door).faults ≡ (g.A.Door.tells l.fn.door).faults;
  failed : l.tally.failed ≡ false;
  holds : g.T.Teller.holds l.teller ≡ g.T.Teller.holds l.fn.teller;
  stands : StandsForSome g.T.Teller.stands l.teller;
}
