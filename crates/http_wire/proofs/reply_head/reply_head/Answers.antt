use Rattle.http_wire.proofs.ReplyLaws.{head_by_lines}
use Rattle.http_wire.proofs.reply_head.reply_head.Goals as goal

pub returns-clause-items : goal.returns-clause-items
returns-clause-items c =
    head_by_lines _ _ _ _ _ _ _ _ _ _ _ _ _
    c.new-head.ensures c.put_status_line.ensures.items c.put_type_line.ensures.items c.put_code_line.ensures.items
    c.put_token_line.ensures.items c.put_close_line.ensures.items c.put_length_line.ensures.items c.put.ensures
