use Rattle.std.proofs.Common.{inl, inr, refl}
use Rattle.serve_runs.specs.ServiceCore.CoreState.{world_in}
use Rattle.rdb_program.proofs.BookLaws.{unasked}
use Rattle.rdb_program.proofs.LoadLaws.{loaded_run}
use Rattle.rdb_program.proofs.RunLaws.{unopened_here}
use Rattle.rdb_program.proofs.run.load.Goals as goal

pub returns-in-Err-clause-run : goal.returns-in-Err-clause-run
returns-in-Err-clause-run g c = λ said config are.
    unopened_here c.in-Err.ending said config (g.L.Link.ends c.args.link.now) _ _ _ (inr (c.args.words.now, are)) c.in-Err.ensures.err

pub returns-clause-run : goal.returns-clause-run
returns-clause-run g c = λ said config are.
    loaded_run g.D.Disk.told g.D.Disk.faults said c.args.words.now config (g.L.Link.ends c.args.link.now) (g.L.Link.ends c.tell_load-ending.new.link) _
    c.in-Ok.policy (world_in c.in-Ok-open_journal.book.machine.core) (world_in c.run_over-ran.new.book.machine.core) c.in-Ok-open_journal.book.journal
    c.run_over-ran.new.book.journal c.close-disk.result _ c.run_over-ran.result c.tell_load-ending.result are c.in-Ok.ensures
    c.in-Ok-open_journal.ensures.ok c.run_over-ran.ensures c.close-disk.ensures c.tell_load-ending.ensures.told
