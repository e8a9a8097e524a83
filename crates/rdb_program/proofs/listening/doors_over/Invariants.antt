use Rattle.std.proofs.Common.{◌≡◌, ◌≤◌, length}
use Rattle.rdb_program.proofs.listening.doors_over.Given as goal

abbrev pub invariant-loop : goal.invariant-loop
invariant-loop g l = (length l.doors.items ≡ l.counter) × (l.end ≤ 64)
