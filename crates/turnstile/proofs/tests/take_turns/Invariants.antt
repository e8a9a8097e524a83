use Rattle.std.proofs.Common.{◌≡◌}
use Rattle.turnstile.proofs.tests.take_turns.Given as goal

abbrev pub invariant-loop : goal.invariant-loop
invariant-loop g l = l.caller.seat.table ≡ l.gate.table
