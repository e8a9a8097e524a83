use Rattle.std.proofs.Common.{◌∙◌}
use Rattle.std.specs.Prelude.{ℕ, List, Some, codes}
use Rattle.serde_json.specs.Data.{string}
use Rattle.result_forms.specs.Shown.{text_shown}
use Rattle.result_forms.specs.Replies.{exoneration_id}
use Rattle.token_texts.specs.Tokens.{member_tokens}
use Rattle.token_texts.proofs.TokenLaws.{added_as, added_at, also}
use Rattle.result_texts.proofs.RowLaws.{exoneration_tokens}
use Rattle.result_texts.proofs.exonerations.put_exoneration.Goals as goal

pub returns : goal.returns
returns c =
    added_as (exoneration_tokens c.args.id.now c.args.row.now)
    (also c.in_ok-begin_object.ensures
    (also (added_at (λ (text : List ℕ). member_tokens (codes "exonerationId") (Some (string text))) c.as_str.result.now (exoneration_id c.args.row.now)
    (c.as_str.ensures.value ∙ c.in_ok-own.ensures) c.in_ok-put_text.ensures)
    (also (added_at (λ (bytes : List ℕ). member_tokens (codes "explanationHtml") (text_shown bytes)) c.as_slice.result.now c.args.row.now.explanation c.as_slice.ensures
    c.in_ok-put_bytes.ensures)
    (also c.in_ok-put_exoneration_name.ensures
    (also (added_at (λ (text : List ℕ). member_tokens (codes "testId") (Some (string text))) c.as_str-3.result.now c.args.row.now.test c.as_str-3.ensures.text
    c.in_ok-put_text-2.ensures)
    (also c.in_ok-put_variant.ensures (also c.in_ok-put_label.ensures c.in_ok-end_object.ensures)))))))
