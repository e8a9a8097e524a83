use Rattle.std.proofs.Common.{◌≡◌, ◌<◌, ◌-◌, List, ◌++◌}
use Rattle.tellers.specs.Exchange.{Exchange}
use Rattle.http_wire.specs.Stream.{reply_limit}
use Rattle.http_workers.proofs.Serving.{Serving}
use Rattle.http_workers.proofs.connection.serve_messages.Given as goal

abbrev pub invariant-messages : goal.invariant-messages
invariant-messages g l = record {
  few : l.answered < reply_limit;
  serving : Serving
      (λ exchanges. (first : g.row.T.Denot) (before : List Exchange) → g.T.Teller.stands first l.fn.teller before
      → g.T.Teller.stands first l.teller (before ++ exchanges))
      (g.L.Link.ends l.fn.link) l.wire l.answered (g.L.Link.ends l.link);
  teller_holds : g.T.Teller.holds l.teller ≡ g.T.Teller.holds l.fn.teller;
  link_holds : g.L.Link.holds l.link ≡ g.L.Link.holds l.fn.link;
}

abbrev pub decreases-messages : goal.decreases-messages
decreases-messages g l = reply_limit - l.answered
