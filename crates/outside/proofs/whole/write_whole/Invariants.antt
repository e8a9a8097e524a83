use Rattle.std.proofs.Common.{◌≡◌, length}
use Rattle.outside.specs.Ends.{OnlyWrites}
use Rattle.outside.proofs.Progress.{TookUpTo}
use Rattle.outside.proofs.whole.write_whole.Given as goal

abbrev pub invariant-loop-rest : goal.invariant-loop-rest
invariant-loop-rest g l = record {
  took : TookUpTo (g.L.Link.ends l.initial.link).outgoing l.fn.bytes l.rest (g.L.Link.ends l.link).outgoing;
  only : OnlyWrites (g.L.Link.ends l.initial.link) (g.L.Link.ends l.link);
  holds : g.L.Link.holds l.link ≡ g.L.Link.holds l.initial.link;
}

abbrev pub decreases-loop-rest : goal.decreases-loop-rest
decreases-loop-rest g l = length l.rest
