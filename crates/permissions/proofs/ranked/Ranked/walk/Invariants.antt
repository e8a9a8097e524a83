use Rattle.std.proofs.Common.{◌≡◌, ◌+◌, ◌≤◌, length}
use Rattle.permissions.specs.Rights.{IsLooked, binds_user}
use Rattle.permissions.proofs.ranked.Ranked.walk.Given as goal

abbrev pub invariant-loop-left : goal.invariant-loop-left
invariant-loop-left l = record {
  len : length l.marks ≡ length l.initial.marks;
  left : l.left ≤ l.start + 1;
  looked : IsLooked l.self.rows.items (binds_user l.self l.ask.user l.ask.permission) l.start l.left l.marks;
}

abbrev pub decreases-loop-left : goal.decreases-loop-left
decreases-loop-left l = l.left
