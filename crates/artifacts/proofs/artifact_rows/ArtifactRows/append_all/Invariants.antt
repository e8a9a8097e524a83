use Rattle.std.proofs.Common.{◌≡◌, ◌≤◌, ◌+◌, ◌++◌, ℕ, length}
use Rattle.artifacts.specs.Artifacts.{room_for}
use Rattle.artifacts.proofs.artifact_rows.ArtifactRows.append_all.Given as goal

abbrev pub invariant-loop-row : goal.invariant-loop-row
invariant-loop-row l = record {
  rows : l.self.rows ≡ l.initial.self.rows ++ l.yielded;
  rooms : (other : ℕ) → room_for l.initial.self other ≤ room_for l.self other + length l.yielded;
  whole : l.fn.rows.items ≡ l.yielded ++ l.row-iterator.rest.items;
}
