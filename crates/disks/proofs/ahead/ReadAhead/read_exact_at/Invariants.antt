use Rattle.std.proofs.Common.{◌≡◌, ◌-◌, ◌≤◌, length, Some}
use Rattle.disks.specs.Parts.{part_of}
use Rattle.disks.specs.Moments.{Told}
use Rattle.disks.specs.Aheads.{IsAheadOf}
use Rattle.disks.proofs.WholeLaws.{SoFar}
use Rattle.disks.proofs.ahead.ReadAhead.read_exact_at.Given as goal

abbrev pub invariant-loop-done : goal.invariant-loop-done
invariant-loop-done g l = record {
  within : l.done ≤ length l.room;
  faults : g.D.Disk.faults l.disk ≡ g.D.Disk.faults l.initial.disk;
  told : g.D.Disk.told l.disk ≡ g.D.Disk.told l.initial.disk;
  ahead : IsAheadOf (g.D.Disk.told l.initial.disk) l.part l.self;
  so_far : (t : Told) → g.D.Disk.told l.initial.disk ≡ Some t →
      SoFar (part_of t.now l.part).bytes l.at l.done l.room;
}

abbrev pub decreases-loop-done : goal.decreases-loop-done
decreases-loop-done g l = length l.room - l.done
