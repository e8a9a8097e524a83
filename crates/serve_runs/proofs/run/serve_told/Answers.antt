use Rattle.std.proofs.Common.{ℕ, List, [], refl, sym, ap, subst, ◌∙◌}
use Rattle.outside.specs.Whole.{WritesWhole}
use Rattle.served_desk.specs.ServiceCore.CoreState.{world_in}
use Rattle.served_desk.specs.Posts.{ServesDoors}
use Rattle.serve_runs.proofs.ServingLaws.{history_of}
use Rattle.serve_runs.proofs.run.serve_told.Goals as goal

pub returns-in-Ok : goal.returns-in-Ok
returns-in-Ok g c =
    let start = c.args.office in
    let end = c.in-Ok.office in
    let back = c.handed_back.result in
    let same = c.handed_back.ensures in
    let served = c.in-Ok.ensures.served in
    let output = g.O.Sink.ends c.args.output.now in
    let after = g.O.Sink.ends c.put_whole-written.new.sink in
    record {
      log = served.0;
      history = history_of g.D.Disk.told g.D.Disk.faults (λ clock. g.C.Clock.tells (g.C.Clock.state clock)) c.args.policy.now
          (world_in start.book.machine.core) (world_in end.book.machine.core) start.clock end.clock back.clock start.book.journal end.book.journal
          back.disk served.0 start.doors.items back.doors.items output after same.disk same.clock served.1;
      sum = c.in-Ok.sum;
      serves = subst (λ doors. ServesDoors g.A.Door.tells g.A.L.Link.ends g.A.L.Link.holds served.0 start.doors.items c.in-Ok.sum doors.items)
          (sym same.doors) served.2;
      failed_is = refl;
      told = subst (λ (text : List ℕ). WritesWhole output text c.put_whole-written.result after) (c.as_slice.ensures.value ∙ c.served_line.ensures)
          c.put_whole-written.ensures;
    }

pub returns-in-Err : goal.returns-in-Err
returns-in-Err g c =
    let start = c.args.office in
    let end = c.in-Err.office in
    let back = c.handed_back-in-Err.result in
    let same = c.handed_back-in-Err.ensures in
    let memory = c.in-Err.ensures.memory in
    let output = g.O.Sink.ends c.args.output.now in
    record {
      history = history_of g.D.Disk.told g.D.Disk.faults (λ clock. g.C.Clock.tells (g.C.Clock.state clock)) c.args.policy.now
          (world_in start.book.machine.core) (world_in end.book.machine.core) start.clock end.clock back.clock start.book.journal end.book.journal
          back.disk [] start.doors.items back.doors.items output output same.disk same.clock memory.1;
      doors = ap (λ v. v.items) same.doors ∙ memory.0;
      output = refl;
    }
