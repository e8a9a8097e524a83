use Rattle.std.proofs.Common.{◌≡◌, [], Ok, Err, refl, sym, ap, ◌∙◌, arith}
use Rattle.outside.specs.Moments.{AreSteps}
use Rattle.result_journal.specs.Journals.{end_of}
use Rattle.serve_runs.specs.ServiceCore.CoreState.{world_in}
use Rattle.serve_runs.specs.ServiceCore.Service.{service_of}
use Rattle.rdb_program.proofs.BookLaws.{begun_over, record_bytes}
use Rattle.rdb_program.proofs.LoadLaws.{run_counted, served_as, told_as}
use Rattle.rdb_program.proofs.run.run_over.Goals as goal

pub run_load-requires : goal.run_load-requires
run_load-requires g c = (
  c.new-teller.result,
  [],
  begun_over g.D.Disk.told g.D.Disk.faults _ _ _ _ _ _ c.requires.stands.0 (ap (λ b. world_in b.machine.core) c.new-teller.ensures.book_now)
      (ap (λ b. b.journal) c.new-teller.ensures.book_now) c.requires.stands.1 c.requires.settled,
)

-- The teller still holds the clock and the book that it was made of, so what it leaves of them is theirs.
pub returns-in-Err : goal.returns-in-Err
returns-in-Err g c =
    let first = c.new-teller.result in
    let last = c.run_load.new.teller in
    let holds = c.in-Err.ensures.holds in
    let same_book : last.book.ghost_name ≡ first.book.ghost_name = cc in
    let book = c.book-1.given.1 (sym c.new-teller.ensures.book ∙ sym same_book) in
    let world = ap (λ b. world_in b.machine.core) c.new-teller.ensures.book_now in
    let journal = ap (λ b. b.journal) c.new-teller.ensures.book_now in
    record {
      secret = c.secret.result.now;
      secret_is = c.secret.ensures;
      steps = last.clock.now;
      last = service_of (record { policy = last.policy.now }) (world_in last.book.now.machine.core);
      left = ap (λ b. world_in b.machine.core) (sym book);
      ran = Err c.in-Err.stop;
      run = run_counted _ _ c.secret.result.now c.args.words.now.number c.from.result c.args.words.now.count (Err c.in-Err.stop) c.from.ensures
          (λ es asked. served_as AreSteps g.D.Disk.told g.D.Disk.faults c.args.policy.now first.policy.now (world_in c.args.book.now.machine.core)
          (world_in first.book.now.machine.core) first.clock.now _ last.clock.now last.clock.now c.args.book.now.journal first.book.now.journal
          last.book.now.journal c.book-1.given.0.journal es
          (service_of (record { policy = last.policy.now }) (world_in last.book.now.machine.core)) c.new-teller.ensures.policy world (c.new-teller.ensures.clock_now ∙ c.new-clock.ensures)
          refl journal (ap (λ b. b.journal) (sym book))
          (asked first []
          (begun_over g.D.Disk.told g.D.Disk.faults _ _ _ _ _ _ c.requires.stands.0 world journal c.requires.stands.1 c.requires.settled)))
          c.in-Err.ensures.run;
      told_of = refl;
    }

pub returns : goal.returns
returns g c =
    let first = c.new-teller.result in
    let last = c.run_load.new.teller in
    let holds = c.in-Ok.ensures.holds in
    let same_book : last.book.ghost_name ≡ first.book.ghost_name = cc in
    let book = c.book-1.given.1 (sym c.new-teller.ensures.book ∙ sym same_book) in
    let world = ap (λ b. world_in b.machine.core) c.new-teller.ensures.book_now in
    let journal = ap (λ b. b.journal) c.new-teller.ensures.book_now in
    record {
      secret = c.secret.result.now;
      secret_is = c.secret.ensures;
      steps = last.clock.now;
      last = service_of (record { policy = last.policy.now }) (world_in last.book.now.machine.core);
      left = ap (λ b. world_in b.machine.core) (sym book);
      ran = Ok c.in-Ok.tally;
      run = run_counted _ _ c.secret.result.now c.args.words.now.number c.from.result c.args.words.now.count (Ok c.in-Ok.tally) c.from.ensures
          (λ es asked. served_as AreSteps g.D.Disk.told g.D.Disk.faults c.args.policy.now first.policy.now (world_in c.args.book.now.machine.core)
          (world_in first.book.now.machine.core) first.clock.now _ last.clock.now last.clock.now c.args.book.now.journal first.book.now.journal
          last.book.now.journal c.book-1.given.0.journal es
          (service_of (record { policy = last.policy.now }) (world_in last.book.now.machine.core)) c.new-teller.ensures.policy world (c.new-teller.ensures.clock_now ∙ c.new-clock.ensures)
          refl journal (ap (λ b. b.journal) (sym book))
          (asked first []
          (begun_over g.D.Disk.told g.D.Disk.faults _ _ _ _ _ _ c.requires.stands.0 world journal c.requires.stands.1 c.requires.settled)))
          c.in-Ok.ensures.run;
      told_of = told_as c.args.words.now c.in-Ok.tally (world_in c.book-1.given.0.machine.core) c.book-1.given.0.journal c.counts.result.finalized c.end.result
          (ap (λ k. k.finalized) c.counts.ensures) c.end.ensures;
    }

pub overflow_sub-result : goal.overflow_sub-result
overflow_sub-result g c =
    let first = c.new-teller.result in
    let last = c.run_load.new.teller in
    let holds = c.in-Ok.ensures.holds in
    let same_book : last.book.ghost_name ≡ first.book.ghost_name = cc in
    let book = c.book-1.given.1 (sym c.new-teller.ensures.book ∙ sym same_book) in
    let world = ap (λ b. world_in b.machine.core) c.new-teller.ensures.book_now in
    let journal = ap (λ b. b.journal) c.new-teller.ensures.book_now in
    let run = c.in-Ok.ensures.run in
    let served = run.told first []
    (begun_over g.D.Disk.told g.D.Disk.faults _ _ _ _ _ _ c.requires.stands.0 world journal c.requires.stands.1 c.requires.settled) in
    let bytes = record_bytes g.D.Disk.told (world_in last.book.now.machine.core) last.book.now.journal served.book.commands served.book.stands in
    let left : end_of c.book-1.given.0.journal ≡ end_of last.book.now.journal = ap (λ b. end_of b.journal) book in
    let end = c.end.ensures in
    omega (arith, bytes, left, end)
