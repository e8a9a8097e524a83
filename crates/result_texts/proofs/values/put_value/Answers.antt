use Rattle.std.proofs.Common.{◌≡◌, true, List, sym, ap, subst, ◌∙◌, string_bytes}
use Rattle.std.specs.List.{list_all}
use Rattle.json.specs.Align.{is_good}
use Rattle.json.specs.Lex.{tokens}
use Rattle.json.specs.Token.{Token}
use Rattle.serde_json.specs.View.{view}
use Rattle.serde_json.specs.Written.{outline}
use Rattle.serde_json.proofs.Texts.{tokens_from_order}
use Rattle.token_texts.specs.Tokens.{tokens_of}
use Rattle.token_texts.proofs.TokenLaws.{added_as}
use Rattle.result_texts.proofs.CopyLaws.{good_tokens}
use Rattle.result_texts.proofs.values.put_value.Goals as goal

pub put_tokens-requires : goal.put_tokens-requires
put_tokens-requires c =
    let same : c.in_ok-reader.reader ≡ tokens_of (view c.args.value.now) =
    c.in_ok-reader.ensures.ok ∙ ap tokens c.as_str.ensures.value ∙ tokens_from_order (string_bytes c.in_ok-text.text) (view c.args.value.now) c.in_ok-text.ensures.order c.requires in
    subst (λ (ts : List Token). list_all is_good ts ≡ true) (sym same) (good_tokens (outline (view c.args.value.now)))

pub returns : goal.returns
returns c =
    let same : c.in_ok-reader.reader ≡ tokens_of (view c.args.value.now) =
    c.in_ok-reader.ensures.ok ∙ ap tokens c.as_str.ensures.value ∙ tokens_from_order (string_bytes c.in_ok-text.text) (view c.args.value.now) c.in_ok-text.ensures.order c.requires in
    added_as same c.in_ok-put_tokens.ensures
