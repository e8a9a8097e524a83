use Rattle.std.proofs.Common.{◌≡◌, ◌-◌, length}
use Rattle.whole_reads.proofs.Filling.{Filling}
use Rattle.whole_reads.proofs.front.fill.Given as goal

abbrev pub invariant-loop-at : goal.invariant-loop-at
invariant-loop-at g l = record {
  filling : Filling l.fn.room (g.S.Source.ends l.fn.source) l.from l.at l.room (g.S.Source.ends l.source);
  ends : (g.S.Source.ends l.source).ends ≡ (g.S.Source.ends l.fn.source).ends;
}

abbrev pub decreases-loop-at : goal.decreases-loop-at
decreases-loop-at g l = length l.initial.room - l.at
