use Rattle.std.proofs.Common.{ap, ◌∙◌}
use Rattle.serde_json.specs.Data.{Data}
use Rattle.page_tokens.specs.Tokens.{query_hash}
use Rattle.query_forms.specs.Lists.{names_in}
use Rattle.query_forms.proofs.ListLaws.{query_of_names}
use Rattle.query_forms.proofs.named.asked.Goals as goal

pub returns-clause-query : goal.returns-clause-query
returns-clause-query c =
    c.in_ok-query.ensures ∙ ap (λ (d : Data). query_hash c.args.method.now (names_in d)) c.in_ok-list.ensures ∙ query_of_names c.args.method.now c.args.ids.now
