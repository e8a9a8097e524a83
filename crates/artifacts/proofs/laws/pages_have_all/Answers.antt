use Rattle.artifacts.proofs.FollowLemmas.{pages_have_all}
use Rattle.artifacts.proofs.laws.pages_have_all.Goals as goal

pub returns : goal.returns
returns c = pages_have_all
