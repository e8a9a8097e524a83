use Rattle.std.proofs.Common.{◌≡◌, ◌≤◌, ◌+◌, ◌++◌, ℕ, length}
use Rattle.test_results.specs.Results.{room_for}
use Rattle.test_results.proofs.result_rows.ResultRows.append_all.Given as goal

abbrev pub invariant-loop-row : goal.invariant-loop-row
invariant-loop-row l = record {
  rows : l.self.rows ≡ l.initial.self.rows ++ l.yielded;
  rooms : (other : ℕ) → room_for l.initial.self other ≤ room_for l.self other + length l.yielded;
  whole : l.fn.rows.items ≡ l.yielded ++ l.row-iterator.rest.items;
}
