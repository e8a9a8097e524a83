use Rattle.std.proofs.Common.{sym, ◌∙◌}
use Rattle.token_texts.proofs.TokenLaws.{added_as, also}
use Rattle.result_texts.proofs.ValueLaws.{reason_tokens}
use Rattle.result_texts.proofs.values.put_reason.Goals as goal

pub returns : goal.returns
returns c =
    added_as (reason_tokens c.args.name.now c.args.message.now c.text_of-text.result.now c.text_of-text.ensures (sym c.is_empty.ensures ∙ c.if-is_empty.false))
    (also (also (also c.in_ok-put_key.ensures c.in_ok-begin_object.ensures) c.in_ok-put_text.ensures) c.in_ok-end_object.ensures)
