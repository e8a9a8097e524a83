use Rattle.std.proofs.Common.{inl, subst}
use Rattle.outside.specs.Whole.{WritesWhole}
use Rattle.serve_runs.specs.ServiceCore.CoreState.{world_in}
use Rattle.rdb_program.proofs.RunLaws.{counted_run, unopened_here}
use Rattle.rdb_program.proofs.run.check.Goals as goal

pub returns-in-Err-clause-run : goal.returns-in-Err-clause-run
returns-in-Err-clause-run g c = λ words config are.
    unopened_here c.in-Err.ending words config (g.L.Link.ends c.args.link.now) _ _ _ (inl are) c.in-Err.ensures.err

pub returns-clause-run : goal.returns-clause-run
returns-clause-run g c = λ words config are.
    counted_run g.D.Disk.told g.D.Disk.faults words config (g.L.Link.ends c.args.link.now) (g.L.Link.ends c.write_whole.new.link) _
    (world_in c.in-Ok.book.machine.core) c.in-Ok.book.journal c.close-disk.result _ c.counts_line-line.result.items c.counts.result c.end.result
    c.write_whole.result are c.in-Ok.ensures.ok c.close-disk.ensures c.counts.ensures c.end.ensures c.counts_line-line.ensures
    (record {
      unread = c.write_whole.ensures.only;
      writes = subst (λ t. WritesWhole (g.L.Link.ends c.args.link.now).outgoing t c.write_whole.result (g.L.Link.ends c.write_whole.new.link).outgoing)
          c.as_slice.ensures.value c.write_whole.ensures.written;
    })
