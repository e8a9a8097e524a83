use Rattle.service_effects.proofs.EffectLaws.{effects_change}
use Rattle.service_effects.proofs.laws.effects_are_changes.Goals as goal

pub returns : goal.returns
returns c = effects_change
