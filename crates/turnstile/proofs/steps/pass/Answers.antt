use Rattle.std.proofs.Common.{arith, Some, None, ◌∙◌}
use Rattle.turnstile.specs.Rule.{holding, own_of}
use Rattle.turnstile.proofs.StepLaws.{passes, puts}
use Rattle.turnstile.proofs.steps.pass.Goals as goal

pub fetch_add-requires : goal.fetch_add-requires
fetch_add-requires g c =
    let two = c.requires.table.1.0 in
    let before = c.args.place.now.me in
    let after = c.exchange-empty.new.seat.me in
    let ticket = c.requires.holds.0 in
    let own = own_of before.0 in (
      c.exchange-empty.ensures.0 ∙ c.requires.table.0,
      omega (arith, two),
      passes _ g.T.Held.by g.J.Fits.fits _ c.exchange-empty.new.seat.id ticket own c.args.value after (puts before after (holding ticket own) None (Some c.args.value) c.requires.holds.1 c.exchange-empty.ensures.3) c.requires.stands,
    )
