use Rattle.std.proofs.Common.{◌≡◌, ◌+◌, ◌≤◌, length}
use Rattle.std.specs.Prelude.{vec_capacity}
use Rattle.desk_trial.specs.Seats.{EachFrom, Sits, first_after}
use Rattle.desk_trial.proofs.clerks.callers_at.Given as goal

abbrev pub invariant-loop-number : goal.invariant-loop-number
invariant-loop-number g l = record {
  table : l.first.table ≡ l.desk.table;
  long : length l.callers.items ≡ l.number;
  knows : l.first.knows ≡ first_after l.number;
  room : l.fn.work.callers + l.fn.work.idle ≤ vec_capacity l.callers;
  seats : EachFrom (λ n c. Sits l.desk l.desk.table n c.teller.desk.now c.teller.seat) 1 l.callers.items;
}
