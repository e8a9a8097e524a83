use Rattle.std.proofs.Common.{sym, ◌∙◌}
use Rattle.token_texts.specs.Shown.{pair_data}
use Rattle.token_texts.proofs.TokenLaws.{added_as, also}
use Rattle.token_texts.proofs.ListLaws.{list_member}
use Rattle.token_texts.proofs.tags.put_tags.Goals as goal

pub returns : goal.returns
returns c =
    added_as (list_member pair_data c.args.name.now c.args.tags.now (sym c.is_empty.ensures ∙ c.if-is_empty.false))
    (also (also (also c.in_ok-put_key.ensures c.in_ok-begin_array.ensures) c.in_ok-put_each_tag.ensures) c.in_ok-end_array.ensures)
