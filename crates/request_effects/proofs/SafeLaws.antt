-- What a safe request does suits the world.
use Rattle.std.proofs.Common.{◌≡◌, ◌≢◌, ◌<◌, ℕ, ℤ, pos, ◌+ℤ◌, ◌≤ℤ◌, ◌<ℤ◌, List, [], ◌∷◌, length, codes, Option, Some, None, unwrap_or, refl, sym, ap, ◌∙◌, subst, inl, inr, arith}
use Rattle.std.specs.Prelude.{◌++◌, slice_get, Contains}
use Rattle.std.specs.List.{All}
use Rattle.std.specs.Option.{ForSome}
use Rattle.std.proofs.lemmas.Bool.{cases_Bool, cond-false, cond-true}
use Rattle.std.proofs.lemmas.Int.{ints}
use Rattle.std.proofs.lemmas.List.Elements.{All-cons, All-nil}
use Rattle.std.proofs.lemmas.Option.{none-some}
use Rattle.artifacts.specs.declared.artifact.Artifact.{Artifact}
use Rattle.artifacts.specs.declared.new_artifact.NewArtifact.{NewArtifact}
use Rattle.artifacts.specs.Artifacts.{HasItsHash}
use Rattle.artifacts.specs.Orders.{invocation_of}
use Rattle.artifacts.specs.Requests.{artifact_of, digested}
use Rattle.artifact_pages.specs.ArtifactForms.declared.batches.BatchCreateArtifacts.{BatchCreateArtifacts}
use Rattle.names_realms.specs.Names.{invocation_name}
use Rattle.names_realms.specs.declared.pairs.Pair.{Pair}
use Rattle.names_realms.specs.declared.states.State.{State}
use Rattle.names_realms.specs.declared.states.State.TheVariants.{Active, Finalizing, Finalized}
use Rattle.inclusion_graph.specs.Edges.{fresh, targets_of}
use Rattle.inclusion_graph.specs.Plans.{PlanState}
use Rattle.inclusion_graph.proofs.ListLemmas.{fresh_within}
use Rattle.invocations.specs.declared.invocation.Invocation.{Invocation}
use Rattle.invocations.specs.Rows.{HasId, IsInState, states_of}
use Rattle.test_results.specs.declared.exoneration.TestExoneration.{TestExoneration}
use Rattle.test_results.specs.declared.result.TestResult.{TestResult}
use Rattle.test_results.specs.Exonerations as exonerations
use Rattle.request_rules.specs.MessageForms.declared.requests.Request.{Request}
use Rattle.request_rules.specs.MessageForms.declared.requests.Request.TheVariants as asks
use Rattle.request_rules.specs.InvocationForms.declared.create.CreateInvocation.{CreateInvocation}
use Rattle.request_rules.specs.InvocationForms.Replies.{state_text}
use Rattle.invocation_world.specs.World.{World, IsCallMoment, IsPair, IsRow, default_lifetime, latest_deadline, new_row}
use Rattle.invocation_world.specs.Changes.{is_update}
use Rattle.invocation_world.proofs.CodeFacts.{fresh_twice}
use Rattle.invocation_world.proofs.RowFacts.{state_is}
use Rattle.request_rules.specs.Named.{place_named, places_named}
use Rattle.request_rules.specs.RequestDemands.Demands.{demand_of, of_artifacts}
use Rattle.request_rules.specs.Broken.{IsInReach, of_invocation, out_of_reach}
use Rattle.request_rules.specs.RequestDemands.Alone.{refusal}
use Rattle.request_rules.proofs.Decided.{reach_or_not}
use Rattle.request_rules.proofs.PlaceLaws.{place-named}
use Rattle.service_effects.specs.declared.effect.Effect.TheVariants as does
use Rattle.request_effects.specs.Effects.{artifacts_at, effect_of, end_at, end_of, exonerations_at, include_at, include_from, include_of, place_of_batch, results_at, update_at, update_of}
use Rattle.service_effects.specs.Service.{Recorded}
use Rattle.service_effects.specs.declared.effect.Effect.{Effect}
use Rattle.service_effects.specs.Fitting.{ArePlaced, IsTimely, Suits}
use Rattle.service_effects.proofs.BatchFacts.{given_batch, given_places, placed_batch}
use Rattle.service_effects.proofs.FileFacts.{artifacts_for}
use Rattle.request_effects.specs.Planned.{IsSafe}
use Rattle.request_effects.proofs.PlaceFacts.{named_there, places_elsewhere, places_within, row_placed}

-- ---- the rules, one by one

free_at : (rows : List Invocation) (id : List ℕ) (o : Option ℕ) → place_named rows id ≡ o → (place_named rows id ≢ None → ⊥) → o ≡ None
free_at rows id None e free = refl
free_at rows id (Some p) e free = absurd (free (λ none. none-some p (sym none ∙ e)))

pub name_is_free : (w : World) (moment : ℤ) (name : List ℕ) (request : Request) (id : List ℕ) → IsSafe w moment name request
    → (demand_of request).makes ≡ Some id → ¬ HasId w.invocations id
name_is_free w moment name request id safe makes has =
    named_there w.invocations id has
    (sym (free_at w.invocations id (place_named w.invocations id) refl
    (λ taken. safe.free (of_invocation 19 id) (record { id = id; makes = makes; taken = taken; refusal_is = refl }))))

is_active : (state : State) → (state ≢ Active → ⊥) → state ≡ Active
is_active Active h = refl
is_active Finalizing h = absurd (h (λ e. cc))
is_active Finalized h = absurd (h (λ e. cc))

pub is_still_active : (w : World) (moment : ℤ) (name : List ℕ) (request : Request) (id : List ℕ) (place : ℕ)
    → IsSafe w moment name request → (demand_of request).active ≡ Some id → place_named w.invocations id ≡ Some place
    → IsInState Active w.invocations place
is_still_active w moment name request id place safe own at =
    let row = row_placed w.invocations id place at in
    state_is Active w.invocations place row.0 row.1
    (is_active row.0.state (λ other.
    safe.active (refusal 12 (invocation_name id ++ (codes " " ++ state_text row.0.state)))
    (record {
      id = id;
      changes = own;
      row = row.0;
      stands = place-named w.invocations id place at ∙ row.1;
      inactive = other;
      refusal_is = refl;
    })))

reaches : (w : World) (moment : ℤ) (name : List ℕ) (request : Request) (deadline : ℤ) → IsSafe w moment name request
    → (demand_of request).deadline ≡ Some deadline → IsInReach moment deadline
reaches w moment name request deadline safe given =
    elim (reach_or_not moment deadline) [
      | inl reach ↦ reach
      | inr far ↦
          absurd (safe.reach (out_of_reach deadline moment)
          (record { deadline = deadline; given = given; far = far; refusal_is = refl }))
    ]

deadline_ahead : (w : World) (moment : ℤ) (name : List ℕ) (request : Request) → IsCallMoment moment → IsSafe w moment name request
    → ForSome (demand_of request).deadline (λ given. (moment <ℤ given) × (given ≤ℤ latest_deadline))
deadline_ahead w moment name request call safe = λ given e.
    let reach = reaches w moment name request given safe e in
    (omega (arith, ints, reach.0), omega (arith, ints, reach.1, call.1))

pub not_among_included : (w : World) (moment : ℤ) (name : List ℕ) (request : Request) (including : List ℕ) → IsSafe w moment name request
    → (demand_of request).changed ≡ Some including → Contains (demand_of request).included including → ⊥
not_among_included w moment name request including safe changes held =
    safe.itself (of_invocation 14 including) (record { id = including; changes = changes; itself = held; refusal_is = refl })

-- ---- a new row

new_deadline : (moment : ℤ) (given : Option ℤ) → IsCallMoment moment → ((deadline : ℤ) → given ≡ Some deadline → IsInReach moment deadline)
    → (pos 0 ≤ℤ unwrap_or given (moment +ℤ default_lifetime)) × (unwrap_or given (moment +ℤ default_lifetime) ≤ℤ latest_deadline)
    × (moment <ℤ unwrap_or given (moment +ℤ default_lifetime))
new_deadline moment None call reach = (omega (arith, ints, call.0), omega (arith, ints, call.1), omega (arith, ints))
new_deadline moment (Some deadline) call reach =
    let here = reach deadline refl in
    (omega (arith, ints, call.0, here.0), omega (arith, ints, call.1, here.1), omega (arith, ints, here.0))

new_is_row : (w : World) (moment : ℤ) (name : List ℕ) (q : CreateInvocation) → IsCallMoment moment
    → IsSafe w moment name (asks.CreateInvocation q)
    → IsRow moment (new_row moment name q.id q.invocation.realm q.invocation.deadline q.invocation.tags)
new_is_row w moment name q call safe =
    let request : Request = asks.CreateInvocation q in
    let bounds = new_deadline moment q.invocation.deadline call (λ given e. reaches w moment name request given safe e) in
    record {
      id = safe.forms.id;
      realm = safe.forms.invocation.realm;
      creator = safe.name_is;
      created = (call.0, omega (arith, ints));
      deadline = (bounds.0, bounds.1);
      stage = (bounds.2, refl, refl);
      tags = safe.forms.invocation.tags;
    }

-- ---- an update

module _ (w : World) (moment : ℤ) (deadline : Option ℤ) (tags : Option (List Pair))
    (ahead : ForSome deadline (λ given. (moment <ℤ given) × (given ≤ℤ latest_deadline))) (pairs : ForSome tags (All IsPair)) where
  row_suits : (p : ℕ) (o : Option Invocation) → slice_get w.invocations p ≡ o → IsInState Active w.invocations p
      → Suits w moment (update_of deadline tags p o)
  row_suits p None e active = tt
  row_suits p (Some row) e active =
      elim (cases_Bool (is_update deadline tags row)) [
        | inl yes_ ↦ subst (Suits w moment) (sym (cond-true (is_update deadline tags row) (does.Update p deadline tags) does.Nothing yes_))
            (record { row = row; stands = e; other = yes_; active = active; ahead = ahead; pairs = pairs })
        | inr no_ ↦ subst (Suits w moment) (sym (cond-false (is_update deadline tags row) (does.Update p deadline tags) does.Nothing no_)) tt
      ]

  update_suits : (o : Option ℕ) → ((p : ℕ) → o ≡ Some p → IsInState Active w.invocations p) → Suits w moment (update_at w.invocations deadline tags o)
  update_suits None active = tt
  update_suits (Some p) active = row_suits p (slice_get w.invocations p) refl (active p refl)

-- ---- an end

end_suits : (w : World) (moment : ℤ) (p : ℕ) (o : Option State) → slice_get (states_of w.invocations) p ≡ o → Suits w moment (end_of p o)
end_suits w moment p None e = tt
end_suits w moment p (Some Active) e = e
end_suits w moment p (Some Finalizing) e = tt
end_suits w moment p (Some Finalized) e = tt

end_there : (w : World) (moment : ℤ) (o : Option ℕ) → Suits w moment (end_at w.invocations o)
end_there w moment None = tt
end_there w moment (Some p) = end_suits w moment p (slice_get (states_of w.invocations) p) refl

-- ---- inclusions

edges_suit : (w : World) (moment : ℤ) (p : ℕ) (held targets : List ℕ) → IsInState Active w.invocations p
    → held ≡ targets_of w.inclusions p → fresh held targets ≡ targets → All (λ t. t < length w.invocations) targets
    → All (λ t. t ≢ p) targets → Suits w moment (include_of p held targets)
edges_suit w moment p held [] active held_is new there elsewhere = tt
edges_suit w moment p held (t ∷ ts) active held_is new there elsewhere = record {
  active = active;
  held = held_is;
  new = new;
  some = λ e. let no : t ∷ ts ≡ [] = e in absurd cc;
  there = there;
  elsewhere = elsewhere;
}

pub fresh_suit : (w : World) (moment : ℤ) (p : ℕ) (targets : List ℕ) → IsInState Active w.invocations p
    → All (λ t. t < length w.invocations) targets → All (λ t. t ≢ p) targets
    → Suits w moment (include_from p (targets_of w.inclusions p) targets)
fresh_suit w moment p targets active there elsewhere =
    let held = targets_of w.inclusions p in
    edges_suit w moment p held (fresh held targets) active refl (fresh_twice held targets)
    (fresh_within (λ t. t < length w.invocations) held targets there) (fresh_within (λ t. t ≢ p) held targets elsewhere)

include_there : (w : World) (moment : ℤ) (targets : List ℕ) (o : Option ℕ)
    → ((p : ℕ) → o ≡ Some p → IsInState Active w.invocations p × All (λ t. t < length w.invocations) targets × All (λ t. t ≢ p) targets)
    → Suits w moment (include_at w targets o)
include_there w moment targets None may = tt
include_there w moment targets (Some p) may =
    let is = may p refl in fresh_suit w moment p targets is.0 is.1 is.2

-- ---- batches

results_suit : (w : World) (moment : ℤ) (o : Option ℕ) (rows : List TestResult) → rows ≢ []
    → ((p : ℕ) → o ≡ Some p → IsInState Active w.invocations p) → Suits w moment (results_at o rows)
results_suit w moment None rows some active = tt
results_suit w moment (Some p) rows some active = given_batch w p rows some (active p refl)

exonerations_suit : (w : World) (moment : ℤ) (held : List TestExoneration) (o : Option ℕ) (rows : List TestExoneration) → rows ≢ []
    → ((p : ℕ) → o ≡ Some p → IsInState Active w.invocations p) → Suits w moment (exonerations_at held o rows)
exonerations_suit w moment held None rows some active = tt
exonerations_suit w moment held (Some p) rows some active =
    placed_batch w p (length (exonerations.places_in held p)) rows some (active p refl)

-- artifacts of a request have their hashes, and there are some where it has some
all_hashed : (news : List NewArtifact) → All HasItsHash (digested news).rows
all_hashed [] = All-nil HasItsHash
all_hashed (new ∷ news) = All-cons HasItsHash (artifact_of new) (digested news).rows refl (all_hashed news)

pub some_digested : (news : List NewArtifact) → news ≢ [] → (digested news).rows ≢ []
some_digested [] some = absurd (some refl)
some_digested (new ∷ news) some = λ e. let no : artifact_of new ∷ (digested news).rows ≡ [] = e in absurd cc

artifacts_suit : (w : World) (moment : ℤ) (o : Option ℕ) (news : List NewArtifact) → news ≢ []
    → ((p : ℕ) → o ≡ Some p → IsInState Active w.invocations p) → Suits w moment (artifacts_at o news)
artifacts_suit w moment None news some active = tt
artifacts_suit w moment (Some p) news some active =
    artifacts_for w p (digested news) (some_digested news some) (all_hashed news) (active p refl)

-- the invocation of a batch of artifacts is active
batch_active : (w : World) (moment : ℤ) (name : List ℕ) (q : BatchCreateArtifacts) (news : List NewArtifact) (place : ℕ)
    → IsSafe w moment name (asks.BatchCreateArtifacts q) → q.requests ≡ news → place_of_batch w.invocations news ≡ Some place
    → IsInState Active w.invocations place
batch_active w moment name q [] place safe are at = absurd (none-some place at)
batch_active w moment name q (first ∷ others) place safe are at =
    is_still_active w moment name (asks.BatchCreateArtifacts q) (invocation_of first.name.parent) place safe
    (ap (λ (news : List NewArtifact). (of_artifacts q.request_id news).active) are) at

-- ---- all requests

pub suits : (w : Recorded) (moment : ℤ) (name : List ℕ) (request : Request) → IsTimely w.rows moment → IsSafe w.rows moment name request
    → Suits w.rows moment (effect_of w moment name request)
suits w moment name (asks.CreateInvocation q) timely safe = record {
  free = name_is_free w.rows moment name (asks.CreateInvocation q) q.id safe refl;
  is_row = new_is_row w.rows moment name q timely.call safe;
  active = refl;
  made = refl;
}
suits w moment name (asks.UpdateInvocation q) timely safe =
    update_suits w.rows moment q.deadline q.tags (deadline_ahead w.rows moment name (asks.UpdateInvocation q) timely.call safe) safe.forms.tags
    (place_named w.rows.invocations q.id)
    (λ p at. is_still_active w.rows moment name (asks.UpdateInvocation q) q.id p safe refl at)
suits w moment name (asks.FinalizeInvocation q) timely safe = end_there w.rows moment (place_named w.rows.invocations q.id)
suits w moment name (asks.UpdateIncludedInvocations q) timely safe =
    let request : Request = asks.UpdateIncludedInvocations q in
    include_there w.rows moment (places_named w.rows.invocations q.add) (place_named w.rows.invocations q.including)
    (λ p at. (
      is_still_active w.rows moment name request q.including p safe refl at,
      places_within w.rows.invocations q.add,
      places_elsewhere w.rows.invocations q.including p q.add at
          (not_among_included w.rows moment name request q.including safe refl),
    ))
suits w moment name (asks.BatchCreateTestResults q) timely safe =
    results_suit w.rows moment (place_named w.rows.invocations q.invocation) q.requests safe.forms.some
    (λ p at. is_still_active w.rows moment name (asks.BatchCreateTestResults q) q.invocation p safe refl at)
suits w moment name (asks.BatchCreateTestExonerations q) timely safe =
    exonerations_suit w.rows moment w.exonerations (place_named w.rows.invocations q.invocation) q.requests safe.forms.some
    (λ p at. is_still_active w.rows moment name (asks.BatchCreateTestExonerations q) q.invocation p safe refl at)
suits w moment name (asks.BatchCreateArtifacts q) timely safe =
    artifacts_suit w.rows moment (place_of_batch w.rows.invocations q.requests) q.requests safe.forms.some
    (λ p at. batch_active w.rows moment name q q.requests p safe refl at)
suits w moment name _ timely safe = tt

-- ---- what is so of each effect on the invocations

module _ (P : Effect → Type 0) (nothing : P does.Nothing) where
  pub of_update : (deadline : Option ℤ) (tags : Option (List Pair)) (place : ℕ) (o : Option Invocation)
      → P (does.Update place deadline tags) → P (update_of deadline tags place o)
  of_update deadline tags place None update = nothing
  of_update deadline tags place (Some row) update =
      elim (cases_Bool (is_update deadline tags row)) [
        | inl yes_ ↦ subst P (sym (cond-true (is_update deadline tags row) (does.Update place deadline tags) does.Nothing yes_)) update
        | inr no_ ↦ subst P (sym (cond-false (is_update deadline tags row) (does.Update place deadline tags) does.Nothing no_)) nothing
      ]

  pub of_update_at : (rows : List Invocation) (deadline : Option ℤ) (tags : Option (List Pair)) (o : Option ℕ)
      → ((place : ℕ) → P (does.Update place deadline tags)) → P (update_at rows deadline tags o)
  of_update_at rows deadline tags None update = nothing
  of_update_at rows deadline tags (Some place) update = of_update deadline tags place (slice_get rows place) (update place)

  of_end : (place : ℕ) (o : Option State) → P (does.End place) → P (end_of place o)
  of_end place None end = nothing
  of_end place (Some Active) end = end
  of_end place (Some Finalizing) end = nothing
  of_end place (Some Finalized) end = nothing

  pub of_end_at : (rows : List Invocation) (o : Option ℕ) → ((place : ℕ) → P (does.End place)) → P (end_at rows o)
  of_end_at rows None end = nothing
  of_end_at rows (Some place) end = of_end place (slice_get (states_of rows) place) (end place)

  of_include : (from : ℕ) (held targets : List ℕ) → ((plan : PlanState) → P (does.Include plan)) → P (include_of from held targets)
  of_include from held [] include = nothing
  of_include from held (target ∷ targets) include = include (record { from = from; held = held; targets = target ∷ targets })

  pub of_include_at : (w : World) (targets : List ℕ) (o : Option ℕ) → ((plan : PlanState) → P (does.Include plan)) → P (include_at w targets o)
  of_include_at w targets None include = nothing
  of_include_at w targets (Some place) include =
      of_include place (targets_of w.inclusions place) (fresh (targets_of w.inclusions place) targets) include

-- exonerations are placed
results_placed : (held : List TestExoneration) (o : Option ℕ) (rows : List TestResult) → ArePlaced held (results_at o rows)
results_placed held None rows = tt
results_placed held (Some holder) rows = tt

exonerations_placed : (held : List TestExoneration) (o : Option ℕ) (rows : List TestExoneration) → ArePlaced held (exonerations_at held o rows)
exonerations_placed held None rows = tt
exonerations_placed held (Some holder) rows = given_places held holder rows

artifacts_placed : (held : List TestExoneration) (o : Option ℕ) (news : List NewArtifact) → ArePlaced held (artifacts_at o news)
artifacts_placed held None news = tt
artifacts_placed held (Some holder) news = tt

pub placed : (w : Recorded) (moment : ℤ) (name : List ℕ) (request : Request) → ArePlaced w.exonerations (effect_of w moment name request)
placed w moment name (asks.CreateInvocation q) = tt
placed w moment name (asks.UpdateInvocation q) =
    of_update_at (ArePlaced w.exonerations) tt w.rows.invocations q.deadline q.tags (place_named w.rows.invocations q.id) (λ place. tt)
placed w moment name (asks.FinalizeInvocation q) =
    of_end_at (ArePlaced w.exonerations) tt w.rows.invocations (place_named w.rows.invocations q.id) (λ place. tt)
placed w moment name (asks.UpdateIncludedInvocations q) =
    of_include_at (ArePlaced w.exonerations) tt w.rows (places_named w.rows.invocations q.add)
    (place_named w.rows.invocations q.including) (λ plan. tt)
placed w moment name (asks.BatchCreateTestResults q) =
    results_placed w.exonerations (place_named w.rows.invocations q.invocation) q.requests
placed w moment name (asks.BatchCreateTestExonerations q) =
    exonerations_placed w.exonerations (place_named w.rows.invocations q.invocation) q.requests
placed w moment name (asks.BatchCreateArtifacts q) =
    artifacts_placed w.exonerations (place_of_batch w.rows.invocations q.requests) q.requests
placed w moment name _ = tt
