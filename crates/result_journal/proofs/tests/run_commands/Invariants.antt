use Rattle.std.proofs.Common.{◌≡◌, true}
use Rattle.result_journal.specs.Journals.{StandsForSome, is_settled}
use Rattle.result_journal.proofs.tests.run_commands.Given as goal

abbrev pub invariant-loop-place : goal.invariant-loop-place
invariant-loop-place g l = record {
  stands : StandsForSome g.D.Disk.told l.journal;
  settled : is_settled l.journal ≡ true;
}
