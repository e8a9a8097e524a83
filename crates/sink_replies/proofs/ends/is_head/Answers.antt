use Rattle.sink_replies.proofs.ReplyLaws.{no_head_alone, not_read}
use Rattle.sink_replies.proofs.ends.is_head.Goals as goal

pub returns-in-Ok-Partial : goal.returns-in-Ok-Partial
returns-in-Ok-Partial c =
    no_head_alone c.args.bytes.now (rw (c.in-Ok-Partial.is, c.in-Ok-Partial.field-0-is) at c.parse_response.ensures.partial)

pub returns-in-Err : goal.returns-in-Err
returns-in-Err c =
    not_read c.args.bytes.now c.parse_response.new.headers c.in-Err.field-0 c.parse_response.result c.in-Err.is c.parse_response.ensures.found
