use Rattle.service_desk.specs.ServiceCore.CoreState.{world_in}
use Rattle.served_desk.proofs.OfficeLaws.{nothing_went, went_through}
use Rattle.served_desk.proofs.serving.serve_at.Goals as goal

pub returns-in-Some-clause-served : goal.returns-in-Some-clause-served
returns-in-Some-clause-served g c =
    let whole = c.close-book.ensures in
    let served = rw c.in-Some.is at c.attend-doors.ensures.served in (
      whole.0,
      went_through g.D.Disk.told g.D.Disk.faults (λ clock. g.C.Clock.tells (g.C.Clock.state clock)) c.args.desk.start c.close-book.result whole.0 whole.1,
      served whole.0 whole.3,
    )

pub returns-in-None-clause-memory : goal.returns-in-None-clause-memory
returns-in-None-clause-memory g c =
    let whole = c.close-book.ensures in
    let now = c.close-book.result in
    let unasked = rw c.in-None.is at c.attend-doors.ensures.unasked in (
      unasked.0,
      nothing_went g.D.Disk.told g.D.Disk.faults (λ clock. g.C.Clock.tells (g.C.Clock.state clock)) c.args.desk.start whole.0 (world_in now.book.machine.core)
          now.clock now.book.journal (unasked.1 whole.0 whole.3)
          (went_through g.D.Disk.told g.D.Disk.faults (λ clock. g.C.Clock.tells (g.C.Clock.state clock)) c.args.desk.start now whole.0 whole.1),
    )
