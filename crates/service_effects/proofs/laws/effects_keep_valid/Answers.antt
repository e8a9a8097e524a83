use Rattle.service_effects.proofs.SoundLaws.{effect_sound}
use Rattle.service_effects.proofs.laws.effects_keep_valid.Goals as goal

pub returns : goal.returns
returns c = effect_sound
