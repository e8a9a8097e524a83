use Rattle.std.proofs.Common.{inl, false, [], ◌∷◌, ◌++◌}
use Rattle.disks.specs.Parts.{other_part}
use Rattle.disks.specs.MomentLaws.{at_both}
use Rattle.result_journal.specs.Journals.{begun_part, disk_of, is_settled, prepared}
use Rattle.result_journal.proofs.OtherLaws.{other_both}
use Rattle.journal_book.specs.Worlds.{HasSettled}
use Rattle.journal_book.specs.Books.{HasEither}
use Rattle.journal_book.proofs.StepLaws.{appended_stands, either_settled}
use Rattle.journal_book.proofs.book.Book.record.Goals as goal

pub returns-in_err-append-clause-any_moment : goal.returns-in_err-append-clause-any_moment
returns-in_err-append-clause-any_moment g c = λ first commands stands.
    let w = g.M.Machine.world c.args.self.now.machine in
    let said = g.M.Machine.said c.args.plan in
    let old = c.args.self.now.journal in
    at_both (g.D.Disk.told (disk_of old)) (g.D.Disk.told (disk_of c.settle.new.journal)) (g.D.Disk.told (disk_of c.append.new.journal))
    (HasSettled g.M.Machine.plays first w (is_settled old) (prepared old)) (HasSettled g.M.Machine.plays first w false said)
    (HasEither g.M.Machine.plays first w old said)
    (λ image has. inl has) (λ image has. either_settled g.M.Machine.plays first w old said image has)
    (c.settle.ensures.any_moment first commands stands) (c.append.ensures.any_moment first commands (c.settle.ensures.stands first commands stands))

pub returns-clause-any_moment : goal.returns-clause-any_moment
returns-clause-any_moment g c = λ first commands stands.
    let w = g.M.Machine.world c.args.self.now.machine in
    let said = g.M.Machine.said c.args.plan in
    let old = c.args.self.now.journal in
    at_both (g.D.Disk.told (disk_of old)) (g.D.Disk.told (disk_of c.settle.new.journal)) (g.D.Disk.told (disk_of c.append.new.journal))
    (HasSettled g.M.Machine.plays first w (is_settled old) (prepared old)) (HasSettled g.M.Machine.plays first w false said)
    (HasEither g.M.Machine.plays first w old said)
    (λ image has. inl has) (λ image has. either_settled g.M.Machine.plays first w old said image has)
    (c.settle.ensures.any_moment first commands stands) (c.append.ensures.any_moment first commands (c.settle.ensures.stands first commands stands))

pub returns-in_err-append-clause-other : goal.returns-in_err-append-clause-other
returns-in_err-append-clause-other g c =
    other_both (other_part begun_part) (g.D.Disk.told (disk_of c.args.self.now.journal)) (g.D.Disk.told (disk_of c.settle.new.journal)) (g.D.Disk.told (disk_of c.append.new.journal))
    c.settle.ensures.other c.append.ensures.other

pub returns-clause-other : goal.returns-clause-other
returns-clause-other g c =
    other_both (other_part begun_part) (g.D.Disk.told (disk_of c.args.self.now.journal)) (g.D.Disk.told (disk_of c.settle.new.journal)) (g.D.Disk.told (disk_of c.append.new.journal))
    c.settle.ensures.other c.append.ensures.other

pub returns-clause-ok : goal.returns-clause-ok
returns-clause-ok g c = λ first commands stands.
    appended_stands g.D.Disk.told g.M.Machine.plays first (g.M.Machine.world c.args.self.now.machine) (g.M.Machine.world c.commit.new.self)
    c.append.new.journal commands (g.M.Machine.said c.args.plan) stands.leads c.commit.ensures.world
    (c.in_ok-append.ensures.ok first commands (c.settle.ensures.stands first commands stands))

pub returns-clause-still : goal.returns-clause-still
returns-clause-still g c = (
  c.requires.stands.0,
  c.requires.stands.1 ++ g.M.Machine.said c.args.plan ∷ [],
  appended_stands g.D.Disk.told g.M.Machine.plays c.requires.stands.0 (g.M.Machine.world c.args.self.now.machine) (g.M.Machine.world c.commit.new.self)
      c.append.new.journal c.requires.stands.1 (g.M.Machine.said c.args.plan) c.requires.stands.2.leads c.commit.ensures.world
      (c.in_ok-append.ensures.ok c.requires.stands.0 c.requires.stands.1 (c.settle.ensures.stands c.requires.stands.0 c.requires.stands.1 c.requires.stands.2)),
)
