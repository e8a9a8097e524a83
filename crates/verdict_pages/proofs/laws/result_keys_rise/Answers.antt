use Rattle.verdict_pages.proofs.KeyLemmas.{results_rise_is}
use Rattle.verdict_pages.proofs.laws.result_keys_rise.Goals as goal

pub returns : goal.returns
returns c = results_rise_is
