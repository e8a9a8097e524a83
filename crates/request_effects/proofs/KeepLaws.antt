-- What is kept of a request, and the answer that is made of it again.
use Rattle.std.proofs.Common.{◌≡◌, ℕ, ℤ, List, [], length, Option, Some, None, option_map, refl, sym, ap, ◌∙◌, subst}
use Rattle.std.specs.Prelude.{slice_get}
use Rattle.std.proofs.lemmas.Option.{none-some, same_Some}
use Rattle.names_realms.specs.declared.states.State.{State}
use Rattle.names_realms.specs.declared.states.State.TheVariants.{Active}
use Rattle.inclusion_graph.specs.Edges.{targets_of}
use Rattle.invocations.specs.declared.invocation.Invocation.{Invocation}
use Rattle.kept_replies.specs.declared.reply.KeptAnswer.{KeptAnswer}
use Rattle.kept_replies.specs.declared.reply.KeptAnswer.TheVariants.{Created, Results, Exonerations, Artifacts}
use Rattle.kept_replies.specs.declared.reply.KeptReply.{KeptReply}
use Rattle.call_forms.specs.declared.asked.Asked.{Asked}
use Rattle.request_rules.specs.MessageForms.declared.replies.Reply.TheVariants as reply
use Rattle.invocation_world.specs.World.{World, IsRow, IsStage}
use Rattle.request_rules.specs.RequestDemands.Demands.{Demand}
use Rattle.request_rules.specs.RequestDemands.Numbered.{digest_of}
use Rattle.request_rules.specs.RequestDemands.Settings.{Settings}
use Rattle.service_effects.specs.declared.effect.Effect.{Effect}
use Rattle.service_effects.specs.declared.effect.Effect.TheVariants as does
use Rattle.request_effects.specs.declared.keeping.Numbered.{Numbered}
use Rattle.request_effects.specs.Keeps.{answer_kept, as_made, kept_answer, kept_of, made_answer, made_reply, numbered_of}
use Rattle.request_effects.specs.Laws.{KeptIsFirst}
use Rattle.service_effects.specs.Service.{Recorded}
use Rattle.request_effects.specs.Shows.{done, ids_at, reply_at, shown_with, token_at}
use Rattle.request_effects.proofs.AheadFacts.{added_includes, added_stands}

-- nothing is kept of what does nothing
pub nothing_kept : (w : Recorded) (name : List ℕ) (numbered : Option Numbered) → kept_of w name numbered does.Nothing ≡ None
nothing_kept w name None = refl
nothing_kept w name (Some n) = refl

-- what is kept has the number, and the answer of the effect
pub record IsKeptOf (w : Recorded) (name : List ℕ) (numbered : Option Numbered) (effect : Effect) (reply : KeptReply) : Type 0 where
  pub n : Numbered
  pub numbered_is : numbered ≡ Some n
  pub caller : reply.caller ≡ name
  pub number : reply.number ≡ n.number
  pub digest : reply.digest ≡ n.digest
  pub answer : answer_kept w effect ≡ Some reply.answer

kept_with : (w : Recorded) (name : List ℕ) (n : Numbered) (effect : Effect) (reply : KeptReply) (o : Option KeptAnswer) → answer_kept w effect ≡ o
    → kept_of w name (Some n) effect ≡ Some reply → IsKeptOf w name (Some n) effect reply
kept_with w name n effect reply None e is =
    let no : None ≡ Some reply =
    sym (ap (option_map (λ (a : KeptAnswer). record { caller = name; number = n.number; digest = n.digest; answer = a })) e) ∙ is in absurd cc
kept_with w name n effect reply (Some answer) e is =
    let made : KeptReply = record { caller = name; number = n.number; digest = n.digest; answer = answer } in
    let same : made ≡ reply = same_Some made reply
    (sym (ap (option_map (λ (a : KeptAnswer). record { caller = name; number = n.number; digest = n.digest; answer = a })) e) ∙ is) in
    subst (IsKeptOf w name (Some n) effect) same (record {
      n = n;
      numbered_is = refl;
      caller = refl;
      number = refl;
      digest = refl;
      answer = e;
    })

pub kept_is : (w : Recorded) (name : List ℕ) (numbered : Option Numbered) (effect : Effect) (reply : KeptReply)
    → kept_of w name numbered effect ≡ Some reply → IsKeptOf w name numbered effect reply
kept_is w name None effect reply is = absurd (none-some reply is)
kept_is w name (Some n) effect reply is = kept_with w name n effect reply (answer_kept w effect) refl is

-- a number with its digest is that of the demand
numbered_in : (asked : Asked) (number : Option (List ℕ)) (n : Numbered)
    → option_map (λ (x : List ℕ). record { number = x; digest = digest_of asked }) number ≡ Some n
    → (number ≡ Some n.number) × (n.digest ≡ digest_of asked)
numbered_in asked None n is = absurd (none-some n is)
numbered_in asked (Some x) n is =
    let made : Numbered = record { number = x; digest = digest_of asked } in
    let same : made ≡ n = same_Some made n is in
    (ap (λ (m : Numbered). Some m.number) same, sym (ap (λ (m : Numbered). m.digest) same))

pub numbered_is : (asked : Asked) (d : Demand) (n : Numbered) → numbered_of asked d ≡ Some n
    → (d.number ≡ Some n.number) × (n.digest ≡ digest_of asked)
numbered_is asked d n is = numbered_in asked d.number n is

-- ---- the answer that is made again

-- a new row is as it was made
as_it_is : (moment : ℤ) (row : Invocation) → IsRow moment row → row.state ≡ Active → as_made row.deadline row.tags row ≡ row
as_it_is moment row is active =
    let stage = subst (λ (s : State). IsStage moment s row.deadline row.started row.finished) active is.stage in
    let Made : Option ℤ → Option ℤ → State → Invocation = λ started finished state.
    record row { started = started; finished = finished; state = state } in
    ap (λ (x : Option ℤ). Made x None Active) (sym stage.1)
    ∙ (ap (λ (x : Option ℤ). Made row.started x Active) (sym stage.2) ∙ ap (Made row.started row.finished) (sym active))

made_again : (s : Settings) (after : World) (place : ℕ) (row : Invocation) (found : Option Invocation) → found ≡ Some row
    → as_made row.deadline row.tags row ≡ row → [] ≡ ids_at after.invocations (targets_of after.inclusions place)
    → made_answer s row.deadline row.tags found ≡ done (token_at s found) (reply_at after place found)
made_again s after place row found is same none =
    let shown_so : made_reply row.deadline row.tags (Some row) ≡ reply_at after place (Some row) =
    ap (λ (r : Invocation). reply.Invocation (shown_with r [])) same
    ∙ ap (λ (ids : List (List ℕ)). reply.Invocation (shown_with row ids)) none in
    ap (λ (f : Option Invocation). made_answer s row.deadline row.tags f) is
    ∙ (ap (done (token_at s (Some row))) shown_so ∙ ap (λ (f : Option Invocation). done (token_at s f) (reply_at after place f)) (sym is))

pub kept_is_first : KeptIsFirst
kept_is_first s w after moment does.Nothing answer timely may makes is = absurd (none-some answer is)
kept_is_first s w after moment (does.Add row) answer timely may makes is =
    let place = length w.rows.invocations in
    let made : Created place row.deadline row.tags ≡ answer = same_Some (Created place row.deadline row.tags) answer is in
    let stands = added_stands w.rows moment (does.Add row) after.rows place row row refl may refl refl makes.rows in
    let includes = added_includes w.rows moment (does.Add row) after.rows place row refl timely refl makes.rows in
    let none : [] ≡ ids_at after.rows.invocations (targets_of after.rows.inclusions place) = ap (ids_at after.rows.invocations) includes.0 in
    ap (kept_answer (record { settings = s; world = after })) (sym made)
    ∙ made_again s after.rows place row (slice_get after.rows.invocations place) stands (as_it_is moment row may.is_row may.active) none
kept_is_first s w after moment (does.Update place deadline tags) answer timely may makes is = absurd (none-some answer is)
kept_is_first s w after moment (does.End place) answer timely may makes is = absurd (none-some answer is)
kept_is_first s w after moment (does.Include plan) answer timely may makes is = absurd (none-some answer is)
kept_is_first s w after moment (does.Results batch) answer timely may makes is =
    ap (kept_answer (record { settings = s; world = after }))
    (sym (same_Some (Results (length w.results) (length batch)) answer is))
kept_is_first s w after moment (does.Exonerations batch) answer timely may makes is =
    ap (kept_answer (record { settings = s; world = after }))
    (sym (same_Some (Exonerations (length w.exonerations) (length batch)) answer is))
kept_is_first s w after moment (does.Artifacts batch) answer timely may makes is =
    ap (kept_answer (record { settings = s; world = after }))
    (sym (same_Some (Artifacts (length w.artifacts) (length batch.rows)) answer is))
