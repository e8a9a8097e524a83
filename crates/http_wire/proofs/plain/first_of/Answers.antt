use Rattle.std.proofs.Common.{arith}
use Rattle.http_wire.proofs.PlainLaws.{ends_in_whole, cut_where_short, long_where_none, not_empty}
use Rattle.http_wire.proofs.plain.first_of.Goals as goal

pub behind_head-requires-clause-short : goal.behind_head-requires-clause-short
behind_head-requires-clause-short c =
    let low = (ends_in_whole _ _ _ _ c.in-Found.ensures).1 in
    let limit = c.min.ensures in
    omega (arith, low, limit)

pub behind_head-requires-clause-ends : goal.behind_head-requires-clause-ends
behind_head-requires-clause-ends c = (ends_in_whole c.args.stream.now c.min.result c.in-Found.end.len c.in-Found.end.lines c.in-Found.ensures).0

pub returns-in-Goes : goal.returns-in-Goes
returns-in-Goes c =
    let limit = c.min.ensures in
    rw c.cut_short.ensures
    (cut_where_short c.args.stream.now c.min.result c.in-Goes.field-0 c.in-Goes.ensures (omega (arith, limit)) c.if-stream-lt-HEAD_LIMIT.true
    (not_empty c.args.stream.now c.is_empty.result c.is_empty.ensures c.if-is_empty.false))

pub returns-in-Goes-2 : goal.returns-in-Goes-2
returns-in-Goes-2 c =
    let limit = c.min.ensures in
    long_where_none c.args.stream.now c.min.result c.in-Goes-2.field-0 c.in-Goes-2.ensures (omega (arith, limit)) c.if-stream-lt-HEAD_LIMIT.false
