use Rattle.std.proofs.Common.{arith}
use Rattle.turnstile.proofs.StepLaws.{looks}
use Rattle.turnstile.proofs.steps.look_by.Goals as goal

pub load-requires : goal.load-requires
load-requires g c =
    let two = c.requires.table.1.0 in
    (c.requires.table.0, omega (arith, two), looks _ g.T.Held.by g.J.Standing.stands c.requires.stands _ c.args.place.now.id c.args.ticket c.args.place.now.me c.requires.waits)
