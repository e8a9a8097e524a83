use Rattle.std.proofs.Common.{◌≡◌, ◌-◌, length}
use Rattle.outside.specs.Ends.{OnlyReads}
use Rattle.sink_replies.proofs.ReadLaws.{Gathered}
use Rattle.sink_replies.proofs.reader.ReplyReader.find_head.Given as goal

abbrev pub invariant-search : goal.invariant-search
invariant-search g l = record {
  gathered : Gathered l.fn.self (g.L.Link.ends l.fn.link).incoming l.self (g.L.Link.ends l.link).incoming;
  only : OnlyReads (g.L.Link.ends l.fn.link) (g.L.Link.ends l.link);
  holds : g.L.Link.holds l.link ≡ g.L.Link.holds l.fn.link;
}

abbrev pub decreases-search : goal.decreases-search
decreases-search g l = 16384 - length l.self
