use Rattle.disks.specs.Parts.{other_part}
use Rattle.result_journal.proofs.OtherLaws.{other_writes, other_syncs, other_both}
use Rattle.result_journal.proofs.StepLaws.{written_through}
use Rattle.result_journal.proofs.write_through.write_through.Goals as goal

pub returns-in_err-write_at-clause-other : goal.returns-in_err-write_at-clause-other
returns-in_err-write_at-clause-other g c =
    other_writes c.args.part c.args.at c.args.piece.now (g.D.Disk.told c.args.disk.now) (g.D.Disk.told c.write_at.new.self)
    c.write_at.result c.write_at.ensures.writes

pub returns-clause-other : goal.returns-clause-other
returns-clause-other g c =
    let old = g.D.Disk.told c.args.disk.now in
    let mid = g.D.Disk.told c.write_at.new.self in
    let new = g.D.Disk.told c.sync.new.self in
    other_both (other_part c.args.part) old mid new
    (other_writes c.args.part c.args.at c.args.piece.now old mid c.write_at.result c.write_at.ensures.writes)
    (other_syncs c.args.part mid new c.sync.result c.sync.ensures.syncs)

pub returns-clause-writes : goal.returns-clause-writes
returns-clause-writes g c =
    written_through _ c.args.part c.args.at c.args.piece.now (g.D.Disk.told c.args.disk.now)
    (g.D.Disk.told c.write_at.new.self) (g.D.Disk.told c.sync.new.self) c.sync.result c.in_ok-write_at.ensures.writes
    c.sync.ensures.syncs
