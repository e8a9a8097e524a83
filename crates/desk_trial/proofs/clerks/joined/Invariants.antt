use Rattle.std.proofs.Common.{◌≡◌, ◌≤◌, ◌+◌, ◌*◌, ◌^◌, ◌++◌, length}
use Rattle.desk_trial.specs.Seats.{EachFrom, HadTurns, StandBelow}
use Rattle.desk_trial.proofs.clerks.joined.Given as goal

abbrev pub invariant-loop-teller : goal.invariant-loop-teller
invariant-loop-teller g l = record {
  can : (goal.iterator-loop-teller g).can_next l.teller-iterator;
  finite : (goal.iterator-loop-teller g).is_finite l.teller-iterator;
  whole : l.initial.teller-iterator.rest.items ≡ l.yielded ++ l.teller-iterator.rest.items;
  table : l.first.table ≡ l.desk.table;
  number : l.first.knows.number ≡ l.fn.first.knows.number;
  splits : l.first.knows.splits ≡ l.fn.first.knows.splits;
  had : EachFrom (λ n c. HadTurns l.desk.table n c.heard.turns c.heard.calls c.teller.seat) (1 + length l.yielded) l.teller-iterator.rest.items;
  stand : StandBelow (1 + length l.yielded) l.sum.turns l.first.knows;
  most : length l.initial.teller-iterator.rest.items ≤ 1000;
  few : l.sum.calls ≤ length l.yielded * 2 ^ 33;
}
