use Rattle.query_pages.proofs.SameLemmas.{result_pages_unseen_is, results_unseen_is, verdict_pages_unseen_is}
use Rattle.query_pages.proofs.laws.unseen_changes_nothing.Goals as goal

pub returns : goal.returns
returns c = record { verdicts = verdict_pages_unseen_is; results = result_pages_unseen_is; result = results_unseen_is }
