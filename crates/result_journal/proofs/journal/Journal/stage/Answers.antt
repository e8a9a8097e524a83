use Rattle.result_journal.proofs.JournalLaws.{stage_long, stage_moments, stage_stands, stage_staged_on}
use Rattle.result_journal.proofs.journal.Journal.stage.Goals as goal

pub write_through-requires-clause-part : goal.write_through-requires-clause-part
write_through-requires-clause-part g c = c.requires.stands.1.part

pub write_through-requires-clause-at : goal.write_through-requires-clause-at
write_through-requires-clause-at g c = stage_long g.D.Disk.told c.args.self.now c.requires.stands.0 c.requires.stands.1
    (g.met.D.Disk.reads_as_image c.args.self.now.disk) c.requires.settled

pub returns-clause-any_moment : goal.returns-clause-any_moment
returns-clause-any_moment g c = λ commands stands. stage_moments g.D.Disk.told c.args.self.now commands stands
    (g.met.D.Disk.reads_as_image c.args.self.now.disk) c.deref.result.now
    (g.D.Disk.told c.write_through.new.disk) c.write_through.result c.requires.settled c.write_through.ensures.writes

pub returns-clause-stands : goal.returns-clause-stands
returns-clause-stands g c = λ commands stands. stage_stands g.D.Disk.told c.args.self.now commands stands
    (g.met.D.Disk.reads_as_image c.args.self.now.disk) c.deref.result.now
    c.write_through.new.disk c.write_through.result c.requires.settled c.write_through.ensures.writes

pub returns-clause-staged : goal.returns-clause-staged
returns-clause-staged g c = stage_staged_on g.D.Disk.told c.args.self.now (g.met.D.Disk.reads_as_image c.args.self.now.disk)
    c.deref.result.now c.write_through.new.disk c.write_through.result c.requires.settled c.requires.prepared
    c.deref.ensures.value c.write_through.ensures.writes
