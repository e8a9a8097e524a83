use Rattle.sink_replies.proofs.ReplyLaws.{begun_short, whole_begins_none}
use Rattle.sink_replies.proofs.heads.judge.Goals as goal

pub returns-in-Ok-Partial : goal.returns-in-Ok-Partial
returns-in-Ok-Partial c =
    let none = rw (c.in-Ok-Partial.is, c.in-Ok-Partial.field-0-is) at c.parse_response.ensures.partial in
    let may = rw c.if-may_go_on.true at c.may_go_on.ensures in
    record { may_become = may; none = none; short = begun_short c.args.bytes.now may none }

pub returns-in-Ok-Partial-2 : goal.returns-in-Ok-Partial-2
returns-in-Ok-Partial-2 c =
    let none = rw (c.in-Ok-Partial.is, c.in-Ok-Partial.field-0-is) at c.parse_response.ensures.partial in
    whole_begins_none c.args.bytes.now ((rw c.if-may_go_on.false at c.may_go_on.ensures) none)
