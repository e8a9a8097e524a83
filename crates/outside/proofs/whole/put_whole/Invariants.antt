use Rattle.std.proofs.Common.{length}
use Rattle.outside.proofs.Progress.{TookUpTo}
use Rattle.outside.proofs.whole.put_whole.Given as goal

abbrev pub invariant-loop-rest : goal.invariant-loop-rest
invariant-loop-rest g l = TookUpTo (g.O.Sink.ends l.initial.sink) l.fn.bytes l.rest (g.O.Sink.ends l.sink)

abbrev pub decreases-loop-rest : goal.decreases-loop-rest
decreases-loop-rest g l = length l.rest
