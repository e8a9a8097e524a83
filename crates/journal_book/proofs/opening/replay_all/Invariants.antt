use Rattle.std.proofs.Common.{◌≡◌, ℕ, List}
use Rattle.result_journal.specs.Openings.{opened_disk}
use Rattle.journal_book.specs.Reading.{HasPlayed}
use Rattle.journal_book.proofs.opening.replay_all.Given as goal

abbrev pub invariant-loop : goal.invariant-loop
invariant-loop g l = record {
  played : (commands : List (List ℕ)) × HasPlayed g.D.Disk.told g.M.Machine.plays (g.M.Machine.world l.fn.machine) l.opening (g.M.Machine.world l.machine) commands;
  told : g.D.Disk.told (opened_disk l.opening) ≡ g.D.Disk.told (opened_disk l.fn.opening);
  faults : g.D.Disk.faults (opened_disk l.opening) ≡ g.D.Disk.faults (opened_disk l.fn.opening);
}
