use Rattle.std.proofs.Common.{◌≡◌, ◌≤◌, ◌-◌, length}
use Rattle.outside.specs.Ends.{OnlyReads}
use Rattle.http_wire.proofs.BodyLaws.{Filling}
use Rattle.http_wire.proofs.body.fill_body.Given as goal

abbrev pub invariant-loop-at : goal.invariant-loop-at
invariant-loop-at g l = record {
  within : l.at ≤ length l.body.items;
  bounded : length l.body.items ≤ l.len;
  filling : Filling l.fn.body.items (g.L.Link.ends l.fn.link).incoming l.at l.body.items (g.L.Link.ends l.link).incoming;
  only : OnlyReads (g.L.Link.ends l.fn.link) (g.L.Link.ends l.link);
  holds : g.L.Link.holds l.link ≡ g.L.Link.holds l.fn.link;
}

abbrev pub decreases-loop-at : goal.decreases-loop-at
decreases-loop-at g l = l.len - l.at
