-- What is recorded of a batch stays, and is there once an entry performs it or repeats it.
use Rattle.std.proofs.Common.{◌≡◌, ◌⊎◌, ℕ, zero, suc, ◌-◌, ◌==◌, ℤ, Bool, true, false, List, [], ◌∷◌, map, get_or, Option, Some, None, refl, sym, ap, ◌∙◌, subst, inl, inr, arith}
use Rattle.std.specs.Prelude.{All, Contains, not}
use Rattle.std.specs.List.{list_all}
use Rattle.std.proofs.lemmas.Bool.{and_parts}
use Rattle.std.proofs.lemmas.List.{get_or-map, length-map}
use Rattle.std.proofs.lemmas.List.Elements.{All-weaker, Contains-append_left, Contains-append_right, Contains-push_cases}
use Rattle.std.proofs.lemmas.Option.{none-some, same_Some}
use Rattle.invocations.specs.declared.invocation.Invocation.{Invocation}
use Rattle.invocations.specs.Rows.{ids_of}
use Rattle.test_results.specs.declared.result.TestResult.{TestResult}
use Rattle.test_results.specs.Batches.{given, with_holder}
use Rattle.kept_replies.specs.declared.reply.KeptReply.{KeptReply}
use Rattle.kept_replies.specs.Kept.{IsFor, place_for}
use Rattle.kept_replies.proofs.FirstLemmas.{place_holds_for}
use Rattle.call_forms.specs.declared.asked.Asked.{Asked}
use Rattle.call_forms.specs.declared.forms.Answer.{Answer}
use Rattle.call_forms.specs.declared.forms.Standin.TheVariants.{Unavailable, Memory, Spent}
use Rattle.call_forms.specs.declared.forms.Told.{Told}
use Rattle.call_forms.specs.declared.forms.Told.TheVariants.{Made, Standin as Instead}
use Rattle.call_forms.specs.Rules.{Rule, refusal_answer, rule, rule_of, rules}
use Rattle.call_forms.specs.declared.forms.Refusal.{Refusal}
use Rattle.invocation_world.specs.World as worlds
use Rattle.service_laws.specs.RequestRules.Broken.{IsAbsent, NotFound, Sought, invocation_with, of_invocation, sought}
use Rattle.service_laws.specs.RequestDemands.Demands.{Demand, demand_of}
use Rattle.service_laws.specs.RequestRules.Held.{Held}
use Rattle.service_laws.specs.RequestRules.Named.{place_named}
use Rattle.service_laws.specs.RequestDemands.Numbered.{digest_of, kept_at}
use Rattle.service_laws.specs.RequestDemands.Order.{FirstOf, IsUnbroken}
use Rattle.service_laws.specs.RequestDemands.Settings.{Settings, caller_name}
use Rattle.service_laws.proofs.RequestRules.PlaceLaws.{place_holds, placed, slice_get-Contains}
use Rattle.service_effects.specs.declared.effect.Effect.TheVariants as does
use Rattle.service_effects.specs.Effects.{Makes}
use Rattle.service_effects.specs.Service.{Recorded, ServiceWorld, recorded}
use Rattle.service_effects.proofs.IdFacts.{id_at}
use Rattle.service_laws.specs.RequestEffects.Effects.{results_at}
use Rattle.service_laws.specs.RequestEffects.Keeps.{numbered_of, with_kept}
use Rattle.service_laws.specs.RequestEffects.Places.{held_in}
use Rattle.service_laws.proofs.RequestEffects.KeepLaws.{kept_is, numbered_is}
use Rattle.service_laws.proofs.RequestEffects.PlaceFacts.{row_placed}
use Rattle.service_laws.specs.ServiceCore.History.{DoesNoMore, Entry, Leads, Tells}
use Rattle.service_laws.specs.ServiceCore.Step.{IsTold, Performs, effect_for, keep_for, performed, refused, repeated}
use Rattle.service_laws.proofs.TableLaws.{Lasts, made_lasts}

-- ---- results of an invocation

-- The results are recorded in the invocation with this id.
pub record AreRecorded (w : Recorded) (invocation : List ℕ) (results : List TestResult) : Type 0 where
  pub holder : ℕ
  pub here : place_named w.rows.invocations invocation ≡ Some holder
  pub stand : All (λ result. Contains w.results (with_holder holder result)) results

-- an invocation stays where its id is found
place_lasts : (old new : Recorded) (id : List ℕ) (place : ℕ) → Lasts old new → worlds.IsValid new.rows
    → place_named old.rows.invocations id ≡ Some place → place_named new.rows.invocations id ≡ Some place
place_lasts old new id place lasts valid at =
    let row = row_placed old.rows.invocations id place at in
    let later = lasts.rows place row.0 row.1 in
    let is : row.0.id ≡ id =
    same_Some row.0.id id (sym (id_at old.rows.invocations place row.0 row.1) ∙ place_holds id (ids_of old.rows.invocations) place at) in
    placed new.rows.invocations id place valid.table
    (id_at new.rows.invocations place later.0 later.1 ∙ ap (λ (x : List ℕ). Some x) (later.2.id ∙ is))

pub recorded_lasts : (old new : Recorded) (invocation : List ℕ) (results : List TestResult) → Lasts old new → worlds.IsValid new.rows
    → AreRecorded old invocation results → AreRecorded new invocation results
recorded_lasts old new invocation results lasts valid h = record {
  holder = h.holder;
  here = place_lasts old new invocation h.holder lasts valid h.here;
  stand = All-weaker (λ (r : TestResult). Contains old.results (with_holder h.holder r))
      (λ (r : TestResult). Contains new.results (with_holder h.holder r))
      (λ r at. subst (λ (rows : List TestResult). Contains rows (with_holder h.holder r)) (sym lasts.results.1)
      (Contains-append_left old.results lasts.results.0 (with_holder h.holder r) at))
      results h.stand;
}

mapped : {A B : Type 0} (f : A → B) (xs : List A) → All (λ x. Contains (map f xs) (f x)) xs
mapped {A} {B} f xs k d low = (
  k,
  omega (arith, low, length-map xs f),
  get_or-map f xs k d (f (get_or xs k d)) low,
)

added : (w after : Recorded) (moment : ℤ) (invocation : List ℕ) (results : List TestResult) (o : Option ℕ)
    → place_named w.rows.invocations invocation ≡ o → (o ≡ None → ⊥) → worlds.IsValid after.rows
    → Makes moment (results_at o results) w after → AreRecorded after invocation results
added w after moment invocation results None e there valid made = absurd (there refl)
added w after moment invocation results (Some holder) e there valid made = record {
  holder = holder;
  here = place_lasts w after invocation holder (made_lasts w moment (does.Results (given holder results)) after made) valid e;
  stand = All-weaker (λ (r : TestResult). Contains (given holder results) (with_holder holder r))
      (λ (r : TestResult). Contains after.results (with_holder holder r))
      (λ r at. subst (λ (rows : List TestResult). Contains rows (with_holder holder r)) (sym made.results)
      (Contains-append_right w.results (given holder results) (with_holder holder r) at))
      results (mapped (with_holder holder) results);
}

-- what a request names is there where it breaks no rule
named_found : (rows : List Invocation) (held : Held) (d : Demand) (id : List ℕ) → IsUnbroken (NotFound rows held d)
    → sought d ≡ invocation_with id ∷ [] → place_named rows id ≡ None → ⊥
named_found rows held d id found names missing =
    found (of_invocation 8 id) (record {
      what = invocation_with id;
      first = subst (λ (all : List Sought). FirstOf (IsAbsent rows held) all (Some (invocation_with id))) (sym names) (inl (missing, refl));
      refusal_is = refl;
    })

-- results that a request adds without breaking a rule are recorded
pub added_recorded : (w after : Recorded) (moment : ℤ) (invocation : List ℕ) (results : List TestResult) (d : Demand)
    → IsUnbroken (NotFound w.rows.invocations (held_in w) d) → sought d ≡ invocation_with invocation ∷ [] → worlds.IsValid after.rows
    → Makes moment (results_at (place_named w.rows.invocations invocation) results) w after → AreRecorded after invocation results
added_recorded w after moment invocation results d found names valid made =
    added w after moment invocation results (place_named w.rows.invocations invocation) refl
    (named_found w.rows.invocations (held_in w) d invocation found names) valid made

-- ---- what is kept

-- The reply was kept by the entry, which performed what it was asked.
pub record IsNewlyKept (s : Settings) (e : Entry) (after : ServiceWorld) (reply : KeptReply) : Type 0 where
  pub between : ServiceWorld
  pub answer : Answer
  pub performs : Performs s between e.moment e.asked after answer
  pub digest : reply.digest ≡ digest_of e.asked

with_kept_cases : (kept : List KeptReply) (keep : Option KeptReply) (reply : KeptReply) → Contains (with_kept kept keep) reply
    → Contains kept reply ⊎ (keep ≡ Some reply)
with_kept_cases kept None reply at = inl at
with_kept_cases kept (Some new) reply at =
    elim (Contains-push_cases kept new reply at) [
      | inl old ↦ inl old
      | inr same ↦ inr (ap (λ (r : KeptReply). Some r) same)
    ]

kept_digest : (s : Settings) (w : ServiceWorld) (moment : ℤ) (asked : Asked) (after : ServiceWorld) (answer : Answer)
    (p : Performs s w moment asked after answer) (reply : KeptReply) → keep_for s w moment asked p.caller p.request ≡ Some reply
    → reply.digest ≡ digest_of asked
kept_digest s w moment asked after answer p reply is =
    let k = kept_is (recorded w) (caller_name s p.caller) (numbered_of asked (demand_of p.request)) (effect_for s w moment p.caller p.request) reply is in
    k.digest ∙ (numbered_is asked (demand_of p.request) k.n k.numbered_is).1

abbrev IsHeld : Settings → ServiceWorld → Entry → ServiceWorld → KeptReply → Type 0
IsHeld s w e after reply = Contains w.kept reply ⊎ IsNewlyKept s e after reply

told_held : (s : Settings) (w between : ServiceWorld) (e : Entry) (after : ServiceWorld) (answer : Answer) → between.kept ≡ w.kept
    → IsTold s between e.moment e.asked after answer → (reply : KeptReply) → Contains after.kept reply → IsHeld s w e after reply
told_held s w between e after answer same (refused r) reply at =
    inl (subst (λ (k : List KeptReply). Contains k reply) (ap (λ (v : ServiceWorld). v.kept) r.same ∙ same) at)
told_held s w between e after answer same (repeated r) reply at =
    inl (subst (λ (k : List KeptReply). Contains k reply) (ap (λ (v : ServiceWorld). v.kept) r.same ∙ same) at)
told_held s w between e after answer same (performed p) reply at =
    let keep = keep_for s between e.moment e.asked p.caller p.request in
    elim (with_kept_cases between.kept keep reply (subst (λ (k : List KeptReply). Contains k reply) p.acts.kept at)) [
      | inl old ↦ inl (subst (λ (k : List KeptReply). Contains k reply) same old)
      | inr is ↦ inr (record {
        between = between;
        answer = answer;
        performs = p;
        digest = kept_digest s between e.moment e.asked after answer p reply is;
      })
    ]

no_more_held : (w : ServiceWorld) (moment : ℤ) (after : ServiceWorld) → DoesNoMore w moment after → (reply : KeptReply)
    → Contains after.kept reply → Contains w.kept reply
no_more_held w moment after (inl same) reply at = subst (λ (v : ServiceWorld). Contains v.kept reply) same at
no_more_held w moment after (inr due) reply at = subst (λ (k : List KeptReply). Contains k reply) due.kept at

tells_held : (s : Settings) (w : ServiceWorld) (e : Entry) (told : Told) (after : ServiceWorld) → Tells s w e told after
    → (reply : KeptReply) → Contains after.kept reply → IsHeld s w e after reply
tells_held s w e (Made answer) after step reply at =
    told_held s w step.between e after answer step.advances.kept step.judged reply at
tells_held s w e (Instead Memory) after no_more reply at = inl (no_more_held w e.moment after no_more reply at)
tells_held s w e (Instead Unavailable) after told reply at = inl (no_more_held w e.moment after told.no_more reply at)
tells_held s w e (Instead Spent) after never reply at = absurd never

-- what is kept after an entry was kept before it, or the entry performed what it was asked
pub leads_held : (s : Settings) (w : ServiceWorld) (e : Entry) (after : ServiceWorld) → Leads s w e after → (reply : KeptReply)
    → Contains after.kept reply → Contains w.kept reply ⊎ IsNewlyKept s e after reply
leads_held s w e after leads reply at = tells_held s w e e.told after leads.tells reply at

-- what is found for a number is kept, and is for it
pub found_held : (kept : List KeptReply) (name number : List ℕ) (reply : KeptReply) (o : Option ℕ) → place_for name number kept ≡ o
    → kept_at kept o ≡ Some reply → Contains kept reply × IsFor name number reply
found_held kept name number reply None e found = absurd (none-some reply found)
found_held kept name number reply (Some place) e found =
    let there = place_holds_for name number kept place e in
    let same : there.0 ≡ reply = same_Some there.0 reply (sym there.1 ∙ found) in
    (slice_get-Contains kept place reply found, subst (IsFor name number) same there.2)

-- ---- refusals

abbrev is_other : Rule → Bool
is_other r = not (r.status == 200)

other_at : (rs : List Rule) (i : ℕ) (d : Rule) → list_all is_other rs ≡ true → is_other d ≡ true → is_other (get_or rs i d) ≡ true
other_at [] i d each last = last
other_at (r ∷ rs) zero d each last = (and_parts (is_other r) (list_all is_other rs) each).0
other_at (r ∷ rs) (suc i) d each last = other_at rs i d (and_parts (is_other r) (list_all is_other rs) each).1 last

other_status : (number : ℕ) → is_other (rule_of number) ≡ true
other_status number = other_at rules (number - 1) (rule [] 0 0) refl refl

-- no refusal has the status 200
pub refusal_is_other : (r : Refusal) (answer : Answer) → answer ≡ refusal_answer r → answer.status ≡ 200 → ⊥
refusal_is_other r answer is good =
    let status : (rule_of r.rule).status ≡ 200 = ap (λ (a : Answer). a.status) (sym is) ∙ good in
    let no : false ≡ true = subst (λ (n : ℕ). not (n == 200) ≡ true) status (other_status r.rule) in
    cc
