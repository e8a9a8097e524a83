use Rattle.std.proofs.Common.{ℕ, List, sym, ◌∙◌}
use Rattle.std.specs.Borrow.{Bor}
use Rattle.invocation_forms.specs.Named.{name_data}
use Rattle.token_texts.proofs.TokenLaws.{added_as, also}
use Rattle.invocation_texts.proofs.ShownLaws.{seen_member}
use Rattle.invocation_texts.proofs.named.put_names.Goals as goal

pub returns : goal.returns
returns c =
    added_as (seen_member name_data (λ (id : Bor (List ℕ)). id.now) c.args.name.now c.args.ids.now (sym c.is_empty.ensures ∙ c.if-is_empty.false))
    (also (also (also c.in_ok-put_key.ensures c.in_ok-begin_array.ensures) c.in_ok-put_each_element.ensures) c.in_ok-end_array.ensures)
