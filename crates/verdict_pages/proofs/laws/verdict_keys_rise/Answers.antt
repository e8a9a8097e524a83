use Rattle.verdict_pages.proofs.KeyLemmas.{verdict_keys_rise_is}
use Rattle.verdict_pages.proofs.laws.verdict_keys_rise.Goals as goal

pub returns : goal.returns
returns c = verdict_keys_rise_is
