use Rattle.verdict_lists.proofs.LawLemmas.{one_listing_is}
use Rattle.verdict_lists.proofs.laws.one_listing.Goals as goal

pub returns : goal.returns
returns c = one_listing_is
