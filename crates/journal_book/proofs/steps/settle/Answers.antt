use Rattle.result_journal.specs.Journals.{is_settled}
use Rattle.journal_book.proofs.StepLaws.{settle_moments, still_stands, was_unsettled}
use Rattle.journal_book.proofs.steps.settle.Goals as goal

pub returns-clause-any_moment : goal.returns-clause-any_moment
returns-clause-any_moment g c = λ first commands stands.
    settle_moments g.D.Disk.told g.M.Machine.plays first (g.M.Machine.world c.args.machine.now) c.args.journal.now c.settle.new.self commands
    stands c.settle.ensures.unmoved (c.settle.ensures.any_moment commands stands.on_disk)

pub returns-clause-stands : goal.returns-clause-stands
returns-clause-stands g c = λ first commands stands.
    still_stands g.D.Disk.told g.M.Machine.plays first (g.M.Machine.world c.args.machine.now) c.args.journal.now c.settle.new.self commands
    stands c.settle.ensures.same
    (was_unsettled c.settle.result (is_settled c.args.journal.now) (is_settled c.settle.new.self) c.settle.ensures.ok_settled
    c.settle.ensures.err_unsettled)
    (c.settle.ensures.commands commands stands.on_disk)
