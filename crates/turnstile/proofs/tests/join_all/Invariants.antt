use Rattle.std.proofs.Common.{◌≡◌, All, vec_len}
use Rattle.turnstile.proofs.tests.join_all.Given as goal

abbrev pub invariant-loop-seat : goal.invariant-loop-seat
invariant-loop-seat l = (l.first.table ≡ l.gate.table) × All (λ c. c.seat.table ≡ l.gate.table) l.callers.items

abbrev pub decreases-loop-seat : goal.decreases-loop-seat
decreases-loop-seat l = vec_len l.callers
