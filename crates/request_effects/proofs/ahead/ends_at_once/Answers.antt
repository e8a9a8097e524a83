use Rattle.request_effects.proofs.DoneFacts.{final_told}
use Rattle.request_effects.proofs.ahead.ends_at_once.Goals as goal

pub returns-in-End-clause-told : goal.returns-in-End-clause-told
returns-in-End-clause-told c =
    final_told c.args.world.now.world c.args.moment c.args.effect.now _ c.would_be_final.result c.in-End.is
    (c.would_be_final.ensures.answer c.args.moment)
