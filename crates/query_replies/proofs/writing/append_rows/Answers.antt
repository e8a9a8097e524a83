use Rattle.std.proofs.Common.{arith}
use Rattle.query_replies.proofs.TextLaws.{row_more, rows_end}
use Rattle.query_replies.proofs.writing.append_rows.Goals as goal

pub loop-row-preserved : goal.loop-row-preserved
loop-row-preserved g c =
    row_more g.T.Row.shows c.args.rows.now c.loop-row.row-index c.row-item.result c.loop-row.later c.loop-row.out.items _ _ c.loop-row-test.true c.loop-row.invariant
    c.in_ok-append_row.ensures c.row-item.is

pub returns : goal.returns
returns g c =
    rows_end g.T.Row.shows c.args.rows.now c.loop-row.row-index c.loop-row.later c.loop-row.out.items _ _ (omega arith) c.loop-row.invariant c.in_ok-push.ensures.items
