use Rattle.std.proofs.Common.{◌≡◌}
use Rattle.turnstile_trial.proofs.callers.take_turns.Given as goal

abbrev pub invariant-loop-turn : goal.invariant-loop-turn
invariant-loop-turn g l = l.caller.seat.table ≡ l.gate.table
