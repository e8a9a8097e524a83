use Rattle.std.proofs.Common.{ap}
use Rattle.std.specs.Prelude.{ℕ, List, Some, codes}
use Rattle.serde_json.specs.Data.{string}
use Rattle.json_fields.specs.NamesRealms.declared.pairs.Pair.{Pair}
use Rattle.result_forms.specs.Shown.{reason_shown, properties_shown, text_shown}
use Rattle.token_texts.specs.Shown.{pair_data}
use Rattle.token_texts.specs.Tokens.{member_tokens, list_shown}
use Rattle.token_texts.proofs.TokenLaws.{added_as, added_at, also}
use Rattle.result_texts.proofs.ListLaws.{shown_list}
use Rattle.result_texts.proofs.RowLaws.{result_tokens}
use Rattle.result_texts.proofs.results.put_result.Goals as goal

pub returns : goal.returns
returns c =
    added_as (result_tokens c.args.id.now c.args.row.now)
    (also c.in_ok-begin_object.ensures
    (also c.in_ok-put_optional.ensures
    (also c.in_ok-put_flag.ensures
    (also (added_at (λ (bytes : List ℕ). member_tokens (codes "failureReason") (reason_shown bytes)) c.as_slice.result.now c.args.row.now.message c.as_slice.ensures
    c.in_ok-put_reason.ensures)
    (also c.in_ok-put_result_name.ensures
    (also (added_at (λ (bytes : List ℕ). member_tokens (codes "properties") (properties_shown bytes)) c.as_slice-2.result.now c.args.row.now.properties c.as_slice-2.ensures
    c.in_ok-put_properties.ensures)
    (also (added_at (λ (text : List ℕ). member_tokens (codes "resultId") (Some (string text))) c.as_str.result.now c.args.row.now.result c.as_str.ensures.text
    c.in_ok-put_text.ensures)
    (also c.in_ok-put_optional-2.ensures
    (also c.in_ok-put_status.ensures
    (also (added_at (λ (bytes : List ℕ). member_tokens (codes "summaryHtml") (text_shown bytes)) c.as_slice-3.result.now c.args.row.now.summary c.as_slice-3.ensures
    c.in_ok-put_bytes.ensures)
    (also (added_as (ap (member_tokens (codes "tags")) (shown_list c.args.row.now.tags))
    (added_at (λ (tags : List Pair). member_tokens (codes "tags") (list_shown pair_data tags)) c.as_slice-4.result.now c.args.row.now.tags c.as_slice-4.ensures
    c.in_ok-put_tags.ensures))
    (also (added_at (λ (text : List ℕ). member_tokens (codes "testId") (Some (string text))) c.as_str-2.result.now c.args.row.now.test c.as_str-2.ensures.text
    c.in_ok-put_text-2.ensures)
    (also c.in_ok-put_variant.ensures (also c.in_ok-put_label.ensures c.in_ok-end_object.ensures))))))))))))))
