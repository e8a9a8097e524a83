use Rattle.std.proofs.Common.{Bool, sym, subst}
use Rattle.result_journal.specs.Journals.{Leaves, disk_of, prepared}
use Rattle.journal_book.specs.Worlds.{HasSettled}
use Rattle.journal_book.proofs.StepLaws.{stands_images}
use Rattle.journal_book.proofs.book.Book.is_settled.Goals as goal

pub returns-clause-leaves : goal.returns-clause-leaves
returns-clause-leaves g c = λ first commands stands.
    let w = g.M.Machine.world c.args.self.now.machine in
    let journal = c.args.self.now.journal in
    subst (λ (b : Bool). Leaves (g.D.Disk.told (disk_of journal)) (HasSettled g.M.Machine.plays first w b (prepared journal)))
    (sym c.is_settled.ensures.value) (stands_images g.D.Disk.told g.M.Machine.plays first w journal commands stands)
