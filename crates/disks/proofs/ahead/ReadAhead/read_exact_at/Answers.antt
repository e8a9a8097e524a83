use Rattle.std.proofs.Common.{◌<◌, arith, ◌∙◌}
use Rattle.disks.specs.Parts.{part_of}
use Rattle.disks.proofs.WholeLaws.{read_more}
use Rattle.disks.proofs.ahead.ReadAhead.read_exact_at.Goals as goal

pub loop-done-preserved : goal.loop-done-preserved
loop-done-preserved g c =
    let some : 0 < c.in_ok-count.count = omega arith in
    record {
      within = c.in_ok-count.ensures.bound;
      faults = c.in_ok-count.ensures.cause.kept ∙ c.loop-done.invariant.faults;
      told = c.read_behind.ensures.told ∙ c.loop-done.invariant.told;
      ahead = λ t is. c.read_behind.ensures.ahead t (c.loop-done.invariant.told ∙ is);
      so_far = λ t is. read_more (part_of t.now c.args.part).bytes c.args.at c.loop-done.done c.in_ok-count.count c.loop-done.room
          c.read_behind.new.room (c.loop-done.invariant.so_far t is) c.read_behind.ensures.front
          (c.in_ok-count.ensures.gives t (c.loop-done.invariant.told ∙ is)) some;
    }
