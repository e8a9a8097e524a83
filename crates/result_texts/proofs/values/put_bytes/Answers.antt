use Rattle.std.proofs.Common.{ap, ◌∙◌}
use Rattle.std.proofs.lemmas.Result.{on_ok_weaker}
use Rattle.result_forms.specs.Shown.{as_text}
use Rattle.token_texts.specs.Shown.{filled}
use Rattle.token_texts.specs.Tokens.{member_tokens}
use Rattle.token_texts.proofs.TokenLaws.{added_as}
use Rattle.result_texts.proofs.ValueLaws.{filled_is}
use Rattle.result_texts.proofs.values.put_bytes.Goals as goal

pub returns : goal.returns
returns c =
    on_ok_weaker c.put_filled.result
    (λ put. added_as (ap (member_tokens c.args.name.now) (ap filled c.text_of.ensures ∙ filled_is (as_text c.args.bytes.now))) put)
    c.put_filled.ensures
