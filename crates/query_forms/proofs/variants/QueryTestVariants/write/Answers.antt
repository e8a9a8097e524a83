use Rattle.std.proofs.Common.{◌≡◌, ℕ, List, map, false, IfSome, refl, ap, subst, ◌∙◌}
use Rattle.serde_json.specs.Data.{string}
use Rattle.serde_json.proofs.Views.{view-Object}
use Rattle.json_fields.specs.Kinds.{empty_text}
use Rattle.json_fields.specs.Writing.{IsWritten, list_data}
use Rattle.names_realms.specs.Names.{invocation_name}
use Rattle.invocation_forms.specs.Named.{name_data}
use Rattle.page_tokens.specs.Tokens.{query_hash}
use Rattle.query_forms.specs.Variants.{variants_method, variants_query}
use Rattle.query_forms.specs.Tokens.{IsCursor, a_token, verdict_cursors, token_text}
use Rattle.query_forms.proofs.VariantLaws.{variants_again}
use Rattle.query_forms.proofs.variants.QueryTestVariants.write.Goals as goal

pub returns-clause-value : goal.returns-clause-value
returns-clause-value c =
    let query : c.in_ok-names.query ≡ variants_query c.args.self.now = c.in_ok-names.ensures.query ∙ ap (λ (ids : List (List ℕ)). query_hash variants_method (map invocation_name ids)) c.as_slice.ensures in
    let list = c.in_ok-names.ensures.list ∙ ap (list_data name_data) c.as_slice.ensures in
    view-Object c.put.new.map
    ∙ rw (c.in_ok-put.ensures, c.invocations.ensures, c.in_ok-put_size-2.ensures, c.result_limit.ensures, c.in_ok-put_size.ensures, c.page_size.ensures, c.in_ok-put_page_token.ensures.members, c.new-map.ensures.empty, list, query) refl

pub returns-clause-again : goal.returns-clause-again
returns-clause-again c = λ is.
    let query : c.in_ok-names.query ≡ variants_query c.args.self.now = c.in_ok-names.ensures.query ∙ ap (λ (ids : List (List ℕ)). query_hash variants_method (map invocation_name ids)) c.as_slice.ensures in
    variants_again c.args.self.now is
    (subst (λ (q : List ℕ). IfSome c.args.self.now.page_token (λ x. IsWritten (a_token verdict_cursors q) (IsCursor verdict_cursors q) empty_text (λ _. false) x (string (token_text verdict_cursors q x))))
    query c.in_ok-put_page_token.ensures.again)
