use Rattle.query_pages.proofs.SameLemmas.{one_result_page_is, one_shown_result_is, one_verdict_page_is}
use Rattle.query_pages.proofs.laws.one_page.Goals as goal

pub returns : goal.returns
returns c = record { verdicts = one_verdict_page_is; results = one_result_page_is; result = one_shown_result_is }
