use Rattle.test_results.specs.declared.exoneration.TestExoneration.{TestExoneration}
use Rattle.result_forms.specs.Replies.{exoneration_data}
use Rattle.token_texts.specs.Tokens.{tokens_of}
use Rattle.token_texts.proofs.ListLaws.{rows_none, rows_more, rows_all}
use Rattle.result_texts.proofs.exonerations.put_exonerations.Goals as goal

pub loop-row-init : goal.loop-row-init
loop-row-init c = rows_none (λ (row : TestExoneration). tokens_of (exoneration_data c.args.id.now row)) c.args.rows.now c.args.out.now

pub loop-row-preserved : goal.loop-row-preserved
loop-row-preserved c =
    rows_more (λ (row : TestExoneration). tokens_of (exoneration_data c.args.id.now row)) c.args.rows.now c.loop-row.row-index c.row-item.result c.loop-row-test.true c.row-item.is
    c.loop-row.invariant c.in_ok-put_exoneration.ensures

pub returns : goal.returns
returns c = rows_all (λ (row : TestExoneration). tokens_of (exoneration_data c.args.id.now row)) c.args.rows.now c.loop-row.row-index c.loop-row-test.false c.loop-row.invariant
