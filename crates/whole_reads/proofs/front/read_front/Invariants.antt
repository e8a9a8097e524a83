use Rattle.std.proofs.Common.{◌≡◌, ◌-◌, vec_len}
use Rattle.whole_reads.proofs.Reading.{Reading}
use Rattle.whole_reads.proofs.front.read_front.Given as goal

abbrev pub invariant-loop-bytes : goal.invariant-loop-bytes
invariant-loop-bytes g l = record {
  reading : Reading (g.S.Source.ends l.fn.source) l.most l.bytes.items (g.S.Source.ends l.source);
  ends : (g.S.Source.ends l.source).ends ≡ (g.S.Source.ends l.fn.source).ends;
}

abbrev pub decreases-loop-bytes : goal.decreases-loop-bytes
decreases-loop-bytes g l = l.most - vec_len l.bytes
