use Rattle.std.proofs.Common.{[], ◌∷◌, arith}
use Rattle.disks.specs.Parts.{other_part}
use Rattle.result_journal.proofs.BeginLaws.{both_short, writes_short, cuts_short, syncs_short}
use Rattle.result_journal.proofs.OtherLaws.{other_writes, other_cuts, other_syncs, other_both}
use Rattle.result_journal.proofs.begin.write_empty_journal.Goals as goal

pub returns-in_err-write_at-clause-moments : goal.returns-in_err-write_at-clause-moments
returns-in_err-write_at-clause-moments g c = λ short.
    (writes_short c.args.part (82 ∷ 68 ∷ 66 ∷ 74 ∷ 82 ∷ 78 ∷ 76 ∷ 49 ∷ 0 ∷ []) (g.D.Disk.told c.args.disk.now) (g.D.Disk.told c.write_at.new.self) c.write_at.result
    (omega arith) short c.write_at.ensures.writes).moments

pub returns-in_err-cut-clause-moments : goal.returns-in_err-cut-clause-moments
returns-in_err-cut-clause-moments g c = λ short.
    let first = writes_short c.args.part (82 ∷ 68 ∷ 66 ∷ 74 ∷ 82 ∷ 78 ∷ 76 ∷ 49 ∷ 0 ∷ []) (g.D.Disk.told c.args.disk.now) (g.D.Disk.told c.write_at.new.self) c.write_at.result
    (omega arith) short c.write_at.ensures.writes in
    let second = cuts_short c.args.part 9 (g.D.Disk.told c.write_at.new.self) (g.D.Disk.told c.cut.new.self) c.cut.result
    first.short c.cut.ensures.cuts in
    (both_short c.args.part (g.D.Disk.told c.args.disk.now) (g.D.Disk.told c.write_at.new.self) (g.D.Disk.told c.cut.new.self)
    first second).moments

pub returns-clause-moments : goal.returns-clause-moments
returns-clause-moments g c = λ short.
    let first = writes_short c.args.part (82 ∷ 68 ∷ 66 ∷ 74 ∷ 82 ∷ 78 ∷ 76 ∷ 49 ∷ 0 ∷ []) (g.D.Disk.told c.args.disk.now) (g.D.Disk.told c.write_at.new.self) c.write_at.result
    (omega arith) short c.write_at.ensures.writes in
    let second = cuts_short c.args.part 9 (g.D.Disk.told c.write_at.new.self) (g.D.Disk.told c.cut.new.self) c.cut.result
    first.short c.cut.ensures.cuts in
    let both = both_short c.args.part (g.D.Disk.told c.args.disk.now) (g.D.Disk.told c.write_at.new.self) (g.D.Disk.told c.cut.new.self)
    first second in
    let third = syncs_short c.args.part (g.D.Disk.told c.cut.new.self) (g.D.Disk.told c.sync.new.self) c.sync.result
    (g.met.D.Disk.reads_as_image c.cut.new.self) both.short c.sync.ensures.syncs in
    (both_short c.args.part (g.D.Disk.told c.args.disk.now) (g.D.Disk.told c.cut.new.self) (g.D.Disk.told c.sync.new.self)
    both third).moments

pub returns-in_err-write_at-clause-other : goal.returns-in_err-write_at-clause-other
returns-in_err-write_at-clause-other g c =
    other_writes c.args.part 0 (82 ∷ 68 ∷ 66 ∷ 74 ∷ 82 ∷ 78 ∷ 76 ∷ 49 ∷ 0 ∷ []) (g.D.Disk.told c.args.disk.now) (g.D.Disk.told c.write_at.new.self)
    c.write_at.result c.write_at.ensures.writes

pub returns-in_err-cut-clause-other : goal.returns-in_err-cut-clause-other
returns-in_err-cut-clause-other g c =
    let old = g.D.Disk.told c.args.disk.now in
    let mid = g.D.Disk.told c.write_at.new.self in
    other_both (other_part c.args.part) old mid (g.D.Disk.told c.cut.new.self)
    (other_writes c.args.part 0 (82 ∷ 68 ∷ 66 ∷ 74 ∷ 82 ∷ 78 ∷ 76 ∷ 49 ∷ 0 ∷ []) old mid c.write_at.result c.write_at.ensures.writes)
    (other_cuts c.args.part 9 mid (g.D.Disk.told c.cut.new.self) c.cut.result c.cut.ensures.cuts)

pub returns-clause-other : goal.returns-clause-other
returns-clause-other g c =
    let old = g.D.Disk.told c.args.disk.now in
    let mid = g.D.Disk.told c.write_at.new.self in
    let last = g.D.Disk.told c.cut.new.self in
    other_both (other_part c.args.part) old last (g.D.Disk.told c.sync.new.self)
    (other_both (other_part c.args.part) old mid last (other_writes c.args.part 0 (82 ∷ 68 ∷ 66 ∷ 74 ∷ 82 ∷ 78 ∷ 76 ∷ 49 ∷ 0 ∷ []) old mid c.write_at.result c.write_at.ensures.writes)
    (other_cuts c.args.part 9 mid last c.cut.result c.cut.ensures.cuts))
    (other_syncs c.args.part last (g.D.Disk.told c.sync.new.self) c.sync.result c.sync.ensures.syncs)
