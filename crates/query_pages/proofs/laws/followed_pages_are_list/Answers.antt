use Rattle.query_pages.proofs.FollowLemmas.{pages_show_results_is, pages_show_verdicts_is}
use Rattle.query_pages.proofs.laws.followed_pages_are_list.Goals as goal

pub returns : goal.returns
returns c = record { verdicts = pages_show_verdicts_is; results = pages_show_results_is }
