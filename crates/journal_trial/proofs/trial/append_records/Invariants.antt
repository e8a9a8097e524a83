use Rattle.journal_book.specs.Books.{StandsForSome}
use Rattle.journal_trial.specs.Counting.{Counts}
use Rattle.journal_trial.proofs.trial.append_records.Given as goal

abbrev pub invariant-loop : goal.invariant-loop
invariant-loop g l = StandsForSome g.D.Disk.told Counts l.book.machine.count l.book.journal
