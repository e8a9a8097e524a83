use Rattle.std.proofs.Common.{subst}
use Rattle.turnstile.specs.Seats.{Origin}
use Rattle.service_desk.specs.Shelves.{Led}
use Rattle.service_desk.proofs.desk.Desk.close.Goals as goal

pub returns : goal.returns
returns g c =
    let closed = c.close.ensures in (
      closed.0,
      subst (λ (o : Origin _). Led g.D.Disk.told g.D.Disk.faults (λ clock. g.C.Clock.tells (g.C.Clock.state clock)) o.start closed.0 c.close.result)
          c.self.view_is (closed.1.led c.self.invariant.0),
      closed.2,
      closed.3,
    )
