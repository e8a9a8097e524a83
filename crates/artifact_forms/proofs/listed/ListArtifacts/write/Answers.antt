use Rattle.std.proofs.Common.{ℕ, List, subst}
use Rattle.std.specs.Option.{ForSome}
use Rattle.form_fields.proofs.RequestLaws.{read_again}
use Rattle.artifact_forms.specs.Tokens.{Tells, token_text}
use Rattle.artifact_forms.proofs.ListLaws.{list_are, list_fields, list_made, told_form}
use Rattle.artifact_forms.proofs.listed.ListArtifacts.write.Goals as goal

pub returns-clause-again : goal.returns-clause-again
returns-clause-again c is =
    let q = c.args.self.now in
    read_again told_form list_fields list_made list_are q
    (is, subst (λ (query : List ℕ). ForSome q.page_token (λ x. Tells query (token_text query x) x)) c.in_ok-query.ensures c.in_ok-put_token.ensures.tells)
