use Rattle.std.proofs.Common.{Bool, MatchBool, sym, subst}
use Rattle.result_journal.specs.Journals.{PartReadsAs, PartBeforeOrAfter, Leaves, prepared}
use Rattle.result_journal.proofs.StandLaws.{stands_leave}
use Rattle.result_journal.proofs.journal.Journal.is_settled.Goals as goal

pub returns-clause-leaves : goal.returns-clause-leaves
returns-clause-leaves g c = λ commands stands.
    subst (λ (b : Bool). MatchBool b (Leaves (g.D.Disk.told c.args.self.now.disk) (PartReadsAs c.args.self.now.part commands))
    (Leaves (g.D.Disk.told c.args.self.now.disk) (PartBeforeOrAfter c.args.self.now.part commands (prepared c.args.self.now))))
    (sym c.nothing_is_left.ensures) (stands_leave g.D.Disk.told c.args.self.now commands stands)
