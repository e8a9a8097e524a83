use Rattle.std.proofs.Common.{[], ap}
use Rattle.service_desk.specs.ServiceCore.CoreState.{world_in}
use Rattle.desk_trial.proofs.BookLaws.{opened_asks}
use Rattle.desk_trial.proofs.books.ask_alone.Goals as goal

pub ask_in_turn-requires : goal.ask_in_turn-requires
ask_in_turn-requires g c = (
  c.new-teller.result,
  [],
  opened_asks g.D.Disk.told g.D.Disk.faults _ _ (world_in c.args.book.now.machine.core) (world_in c.new-teller.result.book.now.machine.core)
      c.args.book.now.journal c.new-teller.result.book.now.journal (ap (λ b. world_in b.machine.core) c.new-teller.ensures.book_now)
      (ap (λ b. b.journal) c.new-teller.ensures.book_now) c.requires,
)
