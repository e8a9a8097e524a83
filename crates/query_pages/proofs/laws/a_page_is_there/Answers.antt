use Rattle.query_pages.proofs.ThereLemmas.{has_result_page_is, has_shown_result_is, has_verdict_page_is}
use Rattle.query_pages.proofs.laws.a_page_is_there.Goals as goal

pub returns : goal.returns
returns c = record { verdicts = has_verdict_page_is; results = has_result_page_is; result = has_shown_result_is }
