use Rattle.query_pages.specs.Seen.{seen_held}
use Rattle.query_replies.specs.Names.{test_results}
use Rattle.query_replies.specs.Results.{seen_data}
use Rattle.query_replies.proofs.TextLaws.{page_seen}
use Rattle.query_replies.proofs.replies.write_results_page.Goals as goal

pub returns : goal.returns
returns c =
    page_seen c.page_text.result c.test_results.result test_results seen_data seen_held c.as_slice.result.now c.args.page.now.rows.items c.args.page.now.next c.test_results.ensures c.as_slice.ensures.value
    c.page_text.ensures
