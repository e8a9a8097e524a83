use Rattle.std.proofs.Common.{length, ◌≡◌, rules}
use Rattle.result_journal.proofs.JournalLaws.{open_long, open_moments, gate_failed, open_stands, on_each_err}
use Rattle.result_journal.proofs.journal.Journal.open_gate.Goals as goal

pub write_through-requires-clause-part : goal.write_through-requires-clause-part
write_through-requires-clause-part g c = c.requires.stands.1.part

pub write_through-requires-clause-at : goal.write_through-requires-clause-at
write_through-requires-clause-at g c = open_long g.D.Disk.told c.args.self.now c.requires.stands.0 c.requires.stands.1
    (g.met.D.Disk.reads_as_image c.args.self.now.disk) c.requires.stands.2

pub returns-in_err-write_through-clause-any_moment : goal.returns-in_err-write_through-clause-any_moment
returns-in_err-write_through-clause-any_moment g c = λ commands stands staged.
    open_moments g.D.Disk.told c.args.self.now commands stands (g.met.D.Disk.reads_as_image c.args.self.now.disk) staged
    (g.D.Disk.told c.write_through.new.disk) c.write_through.result c.write_through.ensures.writes

pub returns-in_err-write_through-clause-err : goal.returns-in_err-write_through-clause-err
returns-in_err-write_through-clause-err g c = on_each_err c.from_residual.result (λ commands stands staged.
    record {
      part = stands.part;
      when_prepared = λ is. let p = stands.when_prepared is in record { is_body = p.is_body; form = p.form; room = p.room };
      when_unsettled = λ is. c.requires.prepared;
      on_disk = gate_failed g.D.Disk.told c.args.self.now commands stands
          (g.met.D.Disk.reads_as_image c.args.self.now.disk) staged 1
          (g.D.Disk.told c.write_through.new.disk) c.in_err-write_through.field-0.0 c.in_err-write_through.ensures.writes;
    })

pub returns-clause-any_moment : goal.returns-clause-any_moment
returns-clause-any_moment g c = λ commands stands staged.
    open_moments g.D.Disk.told c.args.self.now commands stands (g.met.D.Disk.reads_as_image c.args.self.now.disk) staged
    (g.D.Disk.told c.write_through.new.disk) c.write_through.result c.write_through.ensures.writes

pub returns-clause-ok : goal.returns-clause-ok
returns-clause-ok g c = λ commands stands staged.
    let size : c.len.result ≡ length c.args.self.now.staged.items = search rules in
    open_stands g.D.Disk.told c.args.self.now commands stands (g.met.D.Disk.reads_as_image c.args.self.now.disk) staged
    _ c.write_through.new.disk c.len.result size c.requires.prepared c.in_ok-write_through.ensures.writes
