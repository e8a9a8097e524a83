use Rattle.std.proofs.Common.{◌≡◌, [], arith, refl, ap}
use Rattle.std.proofs.lemmas.Grind.{common_steps}
use Rattle.std.proofs.lemmas.Result.{IfOk-weaker}
use Rattle.service_desk.specs.ServiceCore.CoreState.{world_in}
use Rattle.served_desk.proofs.OfficeLaws.{from_start, no_doors, nothing_recorded}
use Rattle.served_desk.proofs.serving.serve_office.Goals as goal

pub returns-then-is_empty-clause-served : goal.returns-then-is_empty-clause-served
returns-then-is_empty-clause-served g c =
    let office = c.args.office in
    let none : office.doors.items ≡ [] = grind (arith, common_steps) in (
      [],
      nothing_recorded g.D.Disk.told g.D.Disk.faults (λ clock. g.C.Clock.tells (g.C.Clock.state clock)) c.args.policy.now
          (world_in office.book.machine.core) (world_in office.book.machine.core) office.book.journal office.book.journal office.clock office.clock
          c.requires.opened refl refl refl,
      no_doors g.A.Door.tells g.A.L.Link.ends g.A.L.Link.holds office.doors.items c.new.result none c.new.ensures,
    )

pub returns-in-Ok-clause-served : goal.returns-in-Ok-clause-served
returns-in-Ok-clause-served g c =
    let start = c.in-Ok.ensures.start in
    IfOk-weaker c.serve_at.result _ _
    (λ r s. (
      s.0,
      from_start g.D.Disk.told g.D.Disk.faults (λ clock. g.C.Clock.tells (g.C.Clock.state clock)) c.in-Ok.desk.start c.args.policy.now
          (world_in c.args.office.book.machine.core) c.args.office.book.journal c.args.office.clock r.0.clock s.0 (world_in r.0.book.machine.core)
          r.0.book.journal c.in-Ok.ensures.policy (ap (λ b. world_in b.machine.core) start.0) (ap (λ b. b.journal) start.0) start.1 s.1,
      s.2,
    )) c.serve_at.ensures.served

pub returns-in-Err-clause-memory : goal.returns-in-Err-clause-memory
returns-in-Err-clause-memory g c =
    let office = c.args.office in
    let shelf = c.in-Err.shelf in
    let same = c.in-Err.ensures.memory in (
      refl,
      nothing_recorded g.D.Disk.told g.D.Disk.faults (λ clock. g.C.Clock.tells (g.C.Clock.state clock)) c.args.policy.now
          (world_in office.book.machine.core) (world_in shelf.book.machine.core) office.book.journal shelf.book.journal office.clock shelf.clock
          c.requires.opened (ap (λ b. world_in b.machine.core) same.0) (ap (λ b. b.journal) same.0) same.1,
    )
