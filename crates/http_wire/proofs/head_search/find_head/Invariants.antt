use Rattle.std.proofs.Common.{◌≡◌, ◌≤◌, ◌-◌, take, length}
use Rattle.outside.specs.Ends.{OnlyReads}
use Rattle.http_wire.specs.Scan.{Passed}
use Rattle.http_wire.specs.Head.{head_limit}
use Rattle.http_wire.proofs.HeadSearchLaws.{Searched}
use Rattle.http_wire.proofs.head_search.find_head.Given as goal

abbrev pub invariant-search : goal.invariant-search
invariant-search g l = record {
  searched : Searched l.fn.buffer (g.L.Link.ends l.fn.link).incoming l.buffer (g.L.Link.ends l.link).incoming;
  within : l.progress.scanned ≤ length l.buffer;
  passed : Passed (take l.progress.scanned l.buffer) l.progress;
  only : OnlyReads (g.L.Link.ends l.fn.link) (g.L.Link.ends l.link);
  holds : g.L.Link.holds l.link ≡ g.L.Link.holds l.fn.link;
}

abbrev pub decreases-search : goal.decreases-search
decreases-search g l = head_limit - length l.buffer
