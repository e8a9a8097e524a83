use Rattle.std.proofs.Common.{arith}
use Rattle.turnstile.specs.Rule.{own_of}
use Rattle.turnstile.proofs.StepLaws.{ends}
use Rattle.turnstile.proofs.steps.end.Goals as goal

pub load-requires : goal.load-requires
load-requires g c =
    let two = c.requires.table.1.0 in
    (c.requires.table.0, omega (arith, two), ends _ g.T.Held.by _ c.args.place.now.id c.args.ticket (own_of c.args.place.now.me.0) c.args.place.now.me c.requires.holds)
