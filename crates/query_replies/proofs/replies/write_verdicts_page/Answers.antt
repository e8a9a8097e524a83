use Rattle.query_pages.specs.Seen.{seen_verdict}
use Rattle.query_replies.specs.Names.{test_variants}
use Rattle.query_replies.specs.Verdicts.{verdict_data}
use Rattle.query_replies.proofs.TextLaws.{page_seen}
use Rattle.query_replies.proofs.replies.write_verdicts_page.Goals as goal

pub returns : goal.returns
returns c =
    page_seen c.page_text.result c.test_variants.result test_variants verdict_data seen_verdict c.as_slice.result.now c.args.page.now.verdicts.items c.args.page.now.next c.test_variants.ensures c.as_slice.ensures.value
    c.page_text.ensures
