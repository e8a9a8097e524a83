use Rattle.std.proofs.Common.{◌≡◌, length}
use Rattle.permissions.specs.Rights.{IsPass}
use Rattle.permissions.proofs.ranked.Ranked.pass.Given as goal

abbrev pub invariant-loop-rank : goal.invariant-loop-rank
invariant-loop-rank l = record {
  is : IsPass l.self l.ask.user l.ask.permission l.pass;
  count : length l.pass.marks.items ≡ l.rank-index;
}
