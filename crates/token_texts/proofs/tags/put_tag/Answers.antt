use Rattle.std.proofs.Common.{ap, ◌∙◌}
use Rattle.token_texts.specs.Shown.{as_text}
use Rattle.token_texts.proofs.TokenLaws.{added_as, also}
use Rattle.token_texts.proofs.MemberLaws.{tag_tokens}
use Rattle.token_texts.proofs.tags.put_tag.Goals as goal

pub returns : goal.returns
returns c =
    added_as (tag_tokens c.args.tag.now c.text_of.result.now c.text_of-2.result.now (c.text_of.ensures ∙ ap as_text c.as_slice.ensures)
    (c.text_of-2.ensures ∙ ap as_text c.as_slice-2.ensures))
    (also (also (also c.in_ok-begin_object.ensures c.in_ok-put_text.ensures) c.in_ok-put_filled.ensures) c.in_ok-end_object.ensures)
