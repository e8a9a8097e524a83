use Rattle.std.proofs.Common.{refl, sym, subst, ◌≤◌, length}
use Rattle.disks.specs.Parts.{part_of}
use Rattle.disks.specs.Memories.{told_by, parts_by}
use Rattle.disks.specs.declared.memory.Moment.{Moment}
use Rattle.disks.proofs.memory.MemoryDiskDisk.write_at.Goals as goal

pub write-requires-clause-at : goal.write-requires-clause-at
write-requires-clause-at c =
    subst (λ (m : Moment). c.args.at ≤ length (part_of (parts_by m) c.args.part).bytes)
    (sym c.call_works-works.ensures.current)
    (c.requires.at (told_by c.args.self.now.current c.args.self.now.past.items) refl)
