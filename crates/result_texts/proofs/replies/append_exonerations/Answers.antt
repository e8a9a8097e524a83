use Rattle.result_forms.specs.Replies.{exoneration_data}
use Rattle.token_texts.proofs.TokenLaws.{also}
use Rattle.result_texts.proofs.ListLaws.{batch_done}
use Rattle.result_texts.proofs.replies.append_exonerations.Goals as goal

pub returns : goal.returns
returns c =
    batch_done c.args.name.now (exoneration_data c.args.id.now) c.args.rows.now c.args.text.items c.into_inner.result.items c.new-out.result c.end_object.new.out
    c.new-out.ensures.before c.new-out.ensures.tokens (also c.in_ok-begin_object.ensures (also c.in_ok-put_exoneration_list.ensures c.in_ok-end_object.ensures))
    c.into_inner.ensures.items
