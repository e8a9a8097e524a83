use Rattle.std.proofs.Common.{◌≡◌, ◌+◌, All}
use Rattle.turnstile.proofs.tests.callers.Given as goal

abbrev pub invariant-loop : goal.invariant-loop
invariant-loop l = (l.first.table ≡ l.gate.table) × (l.first.knows.splits + l.counter ≡ 4294967296) × All (λ c. c.seat.table ≡ l.gate.table) l.all.items
