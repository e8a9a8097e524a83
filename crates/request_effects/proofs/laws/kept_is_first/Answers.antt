use Rattle.request_effects.proofs.KeepLaws.{kept_is_first}
use Rattle.request_effects.proofs.laws.kept_is_first.Goals as goal

pub returns : goal.returns
returns c = kept_is_first
