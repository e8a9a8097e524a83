use Rattle.std.proofs.Common.{refl, sym, subst, ◌≤◌, length}
use Rattle.disks.specs.Parts.{part_of}
use Rattle.disks.specs.Memories.{told_by, parts_by}
use Rattle.disks.specs.declared.memory.Moment.{Moment}
use Rattle.disks.proofs.memory.MemoryDiskDisk.cut.Goals as goal

pub cut_part-requires-clause-end : goal.cut_part-requires-clause-end
cut_part-requires-clause-end c =
    subst (λ (m : Moment). c.args.end ≤ length (part_of (parts_by m) c.args.part).bytes)
    (sym c.call_works-works.ensures.current)
    (c.requires.end (told_by c.args.self.now.current c.args.self.now.past.items) refl)
