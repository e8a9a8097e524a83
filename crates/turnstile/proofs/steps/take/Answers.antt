use Rattle.std.proofs.Common.{Some}
use Rattle.turnstile.proofs.StepLaws.{carries}
use Rattle.turnstile.proofs.steps.take.Goals as goal

pub exchange-requires : goal.exchange-requires
exchange-requires g c = (c.requires.table.0, (Some c.requires.holds.0, carries c.args.place.now.me _ _ c.requires.holds.1))
