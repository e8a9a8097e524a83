use Rattle.std.proofs.Common.{ap, ◌∙◌}
use Rattle.std.specs.Prelude.{ℕ, List, Some, codes, map}
use Rattle.serde_json.specs.Data.{string}
use Rattle.invocation_forms.specs.Replies.{state_text, user_text, invocation_data}
use Rattle.invocation_forms.specs.Shown.{InvocationShown}
use Rattle.token_texts.specs.Tokens.{tokens_of, member_tokens}
use Rattle.token_texts.proofs.TokenLaws.{added_as, added_at, also}
use Rattle.invocation_texts.proofs.ShownLaws.{invocation_tokens}
use Rattle.invocation_texts.proofs.invocations.put_invocation.Goals as goal

pub returns : goal.returns
returns c =
    let held = c.shown.inside in
    let shown : InvocationShown = record {
      id = held.id.now;
      realm = held.realm.now;
      creator = held.creator.now;
      created = held.created;
      deadline = held.deadline;
      started = held.started;
      finished = held.finished;
      state = held.state;
      tags = held.tags.now;
      included = map (λ id. id.now) held.included.now;
    } in
    added_as (invocation_tokens shown ∙ ap (λ (s : InvocationShown). tokens_of (invocation_data s)) c.shown.view_is)
    (also c.in_ok-begin_object.ensures
    (also c.in_ok-put_spelled.ensures
    (also (added_at (λ (user : List ℕ). member_tokens (codes "createdBy") (Some (string (user_text user)))) c.as_slice.result.now held.creator.now c.as_slice.ensures
    c.in_ok-put_user.ensures)
    (also c.in_ok-put_spelled-2.ensures
    (also c.in_ok-put_optional.ensures
    (also c.in_ok-put_optional-2.ensures
    (also c.in_ok-put_names.ensures
    (also c.in_ok-put_name.ensures
    (also (added_at (λ (text : List ℕ). member_tokens (codes "realm") (Some (string text))) c.as_str.result.now held.realm.now c.as_str.ensures.text c.in_ok-put_text.ensures)
    (also (added_at (λ (text : List ℕ). member_tokens (codes "state") (Some (string text))) c.state_name.result.now (state_text held.state) c.state_name.ensures
    c.in_ok-put_text-2.ensures)
    (also c.in_ok-put_tags.ensures c.in_ok-end_object.ensures)))))))))))
