use Rattle.result_journal.specs.Openings.{HasGivenSome}
use Rattle.result_journal.proofs.tests.read_back.Given as goal

abbrev pub invariant-loop : goal.invariant-loop
invariant-loop g l = HasGivenSome g.D.Disk.told l.opening
