use Rattle.std.proofs.Common.{◌≡◌, ◌<◌, ℕ, ◌||◌, length, take}
use Rattle.permissions.specs.Graph.{has}
use Rattle.permissions.specs.Rights.{is_marked}
use Rattle.permissions.proofs.ranked.mark_all.Given as goal

abbrev pub invariant-loop-place : goal.invariant-loop-place
invariant-loop-place l = record {
  len : length l.marks ≡ length l.initial.marks;
  marks : (q : ℕ) → q < length l.initial.marks → is_marked l.marks q ≡ (is_marked l.initial.marks q || has q (take l.place-index l.places));
}
