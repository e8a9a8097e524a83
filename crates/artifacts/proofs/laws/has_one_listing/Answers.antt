use Rattle.artifacts.proofs.FollowLemmas.{has_one_listing}
use Rattle.artifacts.proofs.laws.has_one_listing.Goals as goal

pub returns : goal.returns
returns c = has_one_listing
