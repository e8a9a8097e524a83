use Rattle.verdict_lists.proofs.ThereLemmas.{has_listing_is}
use Rattle.verdict_lists.proofs.laws.a_listing_is_there.Goals as goal

pub returns : goal.returns
returns c = has_listing_is
