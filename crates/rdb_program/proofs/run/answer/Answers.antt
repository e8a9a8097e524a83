use Rattle.std.proofs.Common.{◌≡◌, [], sym, ap, ◌∙◌}
use Rattle.result_journal.specs.Journals.{disk_of}
use Rattle.serve_runs.specs.ServiceCore.CoreState.{world_in}
use Rattle.serve_runs.specs.ServiceCore.Service.{service_of}
use Rattle.http_workers.proofs.FramingLaws.{asked_so}
use Rattle.rdb_program.specs.Run.{disk_end}
use Rattle.rdb_program.proofs.BookLaws.{begun, history_from}
use Rattle.rdb_program.proofs.RunLaws.{unopened_run}
use Rattle.rdb_program.proofs.run.answer.Goals as goal

pub returns-in-Err-clause-run : goal.returns-in-Err-clause-run
returns-in-Err-clause-run g c = λ words before after are accepts.
    unopened_run c.in-Err.ending words before after c.args.policy (g.L.Link.ends c.args.link.now) _ _ _ are accepts c.in-Err.ensures.err

pub serve_connection-requires : goal.serve_connection-requires
serve_connection-requires g c = (
  c.new-teller.result,
  [],
  begun g.D.Disk.told g.D.Disk.faults _ _ _ _ (world_in c.in-Ok.book.machine.core) (world_in c.new-teller.result.book.now.machine.core)
      c.in-Ok.book.journal c.new-teller.result.book.now.journal (ap (λ b. world_in b.machine.core) c.new-teller.ensures.book_now)
      (ap (λ b. b.journal) c.new-teller.ensures.book_now) c.in-Ok.ensures.ok,
)

-- The teller still holds the clock and the book that it was made of, so what it leaves of them is
-- theirs.
pub returns-clause-run : goal.returns-clause-run
returns-clause-run g c = λ words before after are accepts.
    let first = c.new-teller.result in
    let last = c.serve_connection.new.teller in
    let holds = c.serve_connection.ensures.teller_holds in
    let same_clock : last.clock.ghost_name ≡ first.clock.ghost_name = cc in
    let same_book : last.book.ghost_name ≡ first.book.ghost_name = cc in
    let clock = c.clock-2-1.given.1 (sym c.new-teller.ensures.clock ∙ sym same_clock) in
    let book = c.book-3-1.given.1 (sym c.new-teller.ensures.book ∙ sym same_book) in
    let world = ap (λ b. world_in b.machine.core) c.new-teller.ensures.book_now in
    let journal = ap (λ b. b.journal) c.new-teller.ensures.book_now in
    record {
      words_are = are;
      tables = _;
      config = accepts;
      opened = world_in c.in-Ok.book.machine.core;
      disk = disk_end g.D.Disk.told g.D.Disk.faults (disk_of c.in-Ok.book.journal);
      opens = c.in-Ok.ensures.ok.opens;
      served = asked_so _ _ _ _ _
          (λ es asked. history_from (λ clock. g.C.Clock.tells (g.C.Clock.state clock)) g.D.Disk.told g.D.Disk.faults _ first.policy.now
          (world_in c.in-Ok.book.machine.core) (world_in first.book.now.machine.core) first.clock.now _ last.clock.now _
          c.in-Ok.book.journal first.book.now.journal es (service_of (record { policy = last.policy.now }) (world_in last.book.now.machine.core))
          last.book.now.journal c.close-disk.result c.new-teller.ensures.policy world c.new-teller.ensures.clock_now (sym clock) journal
          (ap (λ b. disk_of b.journal) (sym book) ∙ sym c.close-disk.ensures)
          (asked first []
          (begun g.D.Disk.told g.D.Disk.faults _ _ _ _ (world_in c.in-Ok.book.machine.core) (world_in first.book.now.machine.core)
          c.in-Ok.book.journal first.book.now.journal world journal c.in-Ok.ensures.ok)))
          c.serve_connection.ensures.serves;
    }
