use Rattle.std.proofs.Common.{◌≡◌, ◌<◌, ℕ, false, get_or, length}
use Rattle.disks.specs.Parts.{is_among}
use Rattle.disks.proofs.part_state.PartState.image.Given as goal

abbrev pub invariant-loop-place : goal.invariant-loop-place
invariant-loop-place l = record {
  long : length l.image.items ≡ l.place;
  kept : (k : ℕ) → k < l.place → k < l.self.least → is_among l.self.begun.items k ≡ false →
      get_or l.image.items k 0 ≡ get_or l.self.synced.items k 0;
}
