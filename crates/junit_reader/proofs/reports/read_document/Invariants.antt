use Rattle.std.proofs.Common.{length}
use Rattle.junit_reader.proofs.DocumentLemmas.{IsReadTo}
use Rattle.junit_reader.proofs.reports.read_document.Given as goal

abbrev pub invariant-loop-rest : goal.invariant-loop-rest
invariant-loop-rest l = IsReadTo l.document l.reading l.rest

abbrev pub decreases-loop-rest : goal.decreases-loop-rest
decreases-loop-rest l = length l.rest
