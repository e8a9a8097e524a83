use Rattle.std.proofs.Common.{arith, ap}
use Rattle.turnstile.proofs.StepLaws.{splits}
use Rattle.turnstile.proofs.steps.split.Goals as goal

pub split_seat-requires : goal.split_seat-requires
split_seat-requires g c =
    let two = c.requires.table.1.0 in
    (c.requires.table.0, omega (arith, two), splits _ g.T.Held.by c.args.place.now.id c.args.place.now.me.0 (ap (λ m. m.0) c.requires.idle) c.requires.some)
