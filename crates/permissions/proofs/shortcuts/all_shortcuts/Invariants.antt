use Rattle.std.proofs.Common.{◌≡◌, length}
use Rattle.permissions.specs.Rights.{AreShortcuts}
use Rattle.permissions.proofs.shortcuts.all_shortcuts.Given as goal

abbrev pub invariant-loop-rank : goal.invariant-loop-rank
invariant-loop-rank l = record {
  are : AreShortcuts l.rows l.grants l.shortcuts;
  count : length l.shortcuts.of_ranks.items ≡ l.rank;
}
