use Rattle.std.proofs.Common.{◌≡◌, ◌+◌, All}
use Rattle.turnstile_trial.proofs.callers.callers.Given as goal

abbrev pub invariant-loop-number : goal.invariant-loop-number
invariant-loop-number l = (l.first.table ≡ l.gate.table) × (l.first.knows.splits + l.number ≡ 4294967296) × All (λ c. c.seat.table ≡ l.gate.table) l.all.items
