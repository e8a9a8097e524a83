use Rattle.std.proofs.Common.{◌≡◌, length}
use Rattle.permissions.proofs.shortcuts.led_to.Given as goal

abbrev pub invariant-loop-row : goal.invariant-loop-row
invariant-loop-row l = length l.marks.items ≡ length l.rows
