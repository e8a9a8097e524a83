use Rattle.std.proofs.Common.{Option, ap, ◌∙◌, Err}
use Rattle.call_forms.specs.declared.forms.Answer.{Answer}
use Rattle.service_machine.specs.ServiceCore.CoreState.{world_in}
use Rattle.service_machine.specs.Machines.{Plays}
use Rattle.service_machine.specs.ServiceEffects.Service.{empty_service}
use Rattle.service_machine.proofs.MachineLaws.{replayed_is_carried}
use Rattle.record_desk.proofs.RecordingLaws.{kept_err, kept_settled, kept_weaker, never_spent, rose_err, tries_plan}
use Rattle.record_desk.proofs.recording.record_change.Goals as goal

pub record-requires-clause-stands : goal.record-requires-clause-stands
record-requires-clause-stands g c = (empty_service, c.requires.stands.0, c.requires.stands.1)

pub returns-in-Ok-clause-world : goal.returns-in-Ok-clause-world
returns-in-Ok-clause-world g c =
    replayed_is_carried c.args.book.now.machine.core c.args.plan (world_in c.record.new.self.machine.core) c.requires.fits c.in-Ok.ensures.world

pub returns-in-Ok-clause-keeps : goal.returns-in-Ok-clause-keeps
returns-in-Ok-clause-keeps g c =
    kept_settled g.D.Disk.told Plays (world_in c.args.book.now.machine.core) c.args.book.now.journal _ (world_in c.record.new.self.machine.core)
    c.record.new.self.journal c.in-Ok.ensures.settled (λ commands stood. (_, c.in-Ok.ensures.ok empty_service commands stood))

pub returns-in-Err-clause-keeps : goal.returns-in-Err-clause-keeps
returns-in-Err-clause-keeps g c =
    kept_weaker g.D.Disk.told Plays (world_in c.args.book.now.machine.core) c.args.book.now.journal _ _ (world_in c.record.new.self.machine.core)
    c.record.new.self.journal (λ next tried. (ap Err (c.standin_of.ensures ∙ tried.0), tried.1))
    (kept_err g.D.Disk.told c.args.book.now.machine.core c.args.plan c.args.book.now.journal c.record.new.self.journal
    (world_in c.record.new.self.machine.core) c.in-Err.fault c.requires.fits (ap (λ m. world_in m.core) c.in-Err.ensures.same)
    c.in-Err.ensures.left (λ commands stood. c.in-Err.ensures.err empty_service commands stood))

pub returns-in-Err-clause-rose : goal.returns-in-Err-clause-rose
returns-in-Err-clause-rose g c = rw c.standin_of.ensures (rose_err (Option Answer) _ _ _ _ c.in-Err.fault c.in-Err.ensures.cause)

pub returns-in-Err-clause-unspent : goal.returns-in-Err-clause-unspent
returns-in-Err-clause-unspent g c = rw c.standin_of.ensures (never_spent _ c.in-Err.fault)

pub returns-in-Ok-clause-any_moment : goal.returns-in-Ok-clause-any_moment
returns-in-Ok-clause-any_moment g c =
    tries_plan g.D.Disk.told c.args.book.now.machine.core c.args.plan c.args.book.now.journal c.record.new.self.journal c.requires.fits
    (c.record.ensures.any_moment empty_service c.requires.stands.0 c.requires.stands.1)

pub returns-in-Err-clause-any_moment : goal.returns-in-Err-clause-any_moment
returns-in-Err-clause-any_moment g c =
    tries_plan g.D.Disk.told c.args.book.now.machine.core c.args.plan c.args.book.now.journal c.record.new.self.journal c.requires.fits
    (c.record.ensures.any_moment empty_service c.requires.stands.0 c.requires.stands.1)
