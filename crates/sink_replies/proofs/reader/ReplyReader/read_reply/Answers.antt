use Rattle.std.proofs.Common.{◌∙◌, ap, Err}
use Rattle.std.proofs.lemmas.Result.{err_from_is_err_and}
use Rattle.sink_replies.proofs.ReplyReadLaws.{without_head, without_body, whole_reply}
use Rattle.sink_replies.proofs.reader.ReplyReader.read_reply.Goals as goal

pub returns-in_err-head-clause-reply : goal.returns-in_err-head-clause-reply
returns-in_err-head-clause-reply g c =
    let p = err_from_is_err_and c.from_residual.result c.from_residual.ensures.1 in
    without_head _ _ _ _ _ _ (p.1 ∙ ap Err p.2) c.in_err-head.ensures.finds

pub returns-in_err-skip_body-clause-reply : goal.returns-in_err-skip_body-clause-reply
returns-in_err-skip_body-clause-reply g c =
    let p = err_from_is_err_and c.from_residual-in_err-skip_body.result c.from_residual-in_err-skip_body.ensures.1 in
    without_body _ _ _ _ _ _ _ c.in_ok-head.head _ _ (p.1 ∙ ap Err p.2) c.in_ok-head.ensures.finds c.advance.ensures
    c.in_err-skip_body.ensures.skips

pub returns-clause-reply : goal.returns-clause-reply
returns-clause-reply g c =
    whole_reply _ _ _ _ _ _ _ c.in_ok-head.head _ c.in_ok-head.ensures.finds c.advance.ensures c.in_ok-skip_body.ensures.skips
