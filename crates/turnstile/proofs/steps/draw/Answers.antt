use Rattle.std.proofs.Common.{arith}
use Rattle.turnstile.proofs.StepLaws.{draws}
use Rattle.turnstile.proofs.steps.draw.Goals as goal

pub compare_exchange-requires : goal.compare_exchange-requires
compare_exchange-requires g c =
    let two = c.requires.table.1.0 in
    (c.requires.table.0, omega (arith, two), draws _ g.T.Held.by _ c.args.place.now.id c.args.ticket c.args.place.now.me c.requires.idle c.requires.room)
