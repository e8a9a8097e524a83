use Rattle.std.proofs.Common.{length, ◌-◌}
use Rattle.sink_uploads.proofs.VisitLaws.{Visiting}
use Rattle.sink_uploads.proofs.visit.visit.Given as goal

abbrev pub invariant-loop-answered : goal.invariant-loop-answered
invariant-loop-answered g l = Visiting l.requests l.answered (g.L.Link.ends l.fn.link) (g.L.Link.ends l.link) l.reader

abbrev pub decreases-loop-answered : goal.decreases-loop-answered
decreases-loop-answered g l = length l.requests - l.answered
