use Rattle.std.proofs.Common.{◌≡◌, length}
use Rattle.outside.specs.Ends.{OnlyReads}
use Rattle.sink_replies.proofs.ReadLaws.{Passing}
use Rattle.sink_replies.proofs.body.skip.Given as goal

abbrev pub invariant-loop-left : goal.invariant-loop-left
invariant-loop-left g l = record {
  passing : Passing (g.L.Link.ends l.fn.link).incoming l.len l.left (g.L.Link.ends l.link).incoming;
  only : OnlyReads (g.L.Link.ends l.fn.link) (g.L.Link.ends l.link);
  holds : g.L.Link.holds l.link ≡ g.L.Link.holds l.fn.link;
  room : length l.room ≡ 16384;
}

abbrev pub decreases-loop-left : goal.decreases-loop-left
decreases-loop-left g l = l.left
