use Rattle.std.proofs.Common.{subst}
use Rattle.result_journal.specs.Journals.{disk_of}
use Rattle.journal_book.specs.Books.{IsOpenFault}
use Rattle.serve_runs.specs.ServiceMachine.ServiceEffects.Service.{ServiceWorld}
use Rattle.serve_runs.specs.ServiceCore.CoreState.{world_in}
use Rattle.serve_runs.specs.ServiceMachine.Machines.{Plays}
use Rattle.rdb_program.specs.Run.{disk_end}
use Rattle.rdb_program.proofs.BookLaws.{opens_from}
use Rattle.rdb_program.proofs.run.open_journal.Goals as goal

pub returns-in-Ok-open-clause-ok : goal.returns-in-Ok-open-clause-ok
returns-in-Ok-open-clause-ok g c =
    let e = c.in-Ok-open.ensures in
    opens_from g.D.Disk.told (world_in c.in-Ok.core) (world_in c.in-Ok-open.book.machine.core) c.in-Ok-open.book.journal
    (disk_end g.D.Disk.told g.D.Disk.faults c.args.disk) (disk_end g.D.Disk.told g.D.Disk.faults (disk_of c.in-Ok-open.book.journal)) c.in-Ok.ensures
    e.stands e.world e.settled e.begins e.other e.any_moment e.synced e.no_cause

pub returns-in-Err-clause-err : goal.returns-in-Err-clause-err
returns-in-Err-clause-err g c =
    let e = c.in-Err.ensures in
    record {
      shown = subst (λ (v : ServiceWorld). IsOpenFault Plays v (g.D.Disk.told c.args.disk) (g.D.Disk.told c.in-Err.disk) c.in-Err.fault) c.in-Ok.ensures
          e.shown;
      kept = e.kept;
      other = e.other_err;
      moments = e.any_moment_err;
      synced = e.synced_err;
      cause = e.cause;
    }
