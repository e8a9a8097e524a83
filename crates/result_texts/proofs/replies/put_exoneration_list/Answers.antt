use Rattle.std.proofs.Common.{sym, ◌∙◌}
use Rattle.result_forms.specs.Replies.{exoneration_data}
use Rattle.json.specs.Token.{key}
use Rattle.std.specs.Prelude.{◌∷◌, []}
use Rattle.token_texts.proofs.TokenLaws.{added_as, added_at, also}
use Rattle.token_texts.proofs.ListLaws.{list_member}
use Rattle.result_texts.proofs.replies.put_exoneration_list.Goals as goal

pub returns : goal.returns
returns c =
    added_as (list_member (exoneration_data c.args.id.now) c.args.name.now.camel c.args.rows.now (sym c.is_empty.ensures ∙ c.if-is_empty.false))
    (also (added_at (λ name. key name ∷ []) c.camel.result.now c.args.name.now.camel c.camel.ensures c.in_ok-put_key.ensures)
    (also c.in_ok-begin_array.ensures (also c.in_ok-put_exonerations.ensures c.in_ok-end_array.ensures)))
