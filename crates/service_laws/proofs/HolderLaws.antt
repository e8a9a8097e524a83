-- The names of artifacts that come in have the invocation that is to hold them.
use Rattle.std.proofs.Common.{◌≡◌, ℕ, ℤ, List, [], ◌∷◌, map, Option, Some, None, refl, sym, ap, ◌∙◌}
use Rattle.std.specs.List.{All, slice_get}
use Rattle.std.proofs.lemmas.List.Elements.{All-cons, All-head, All-nil, All-tail}
use Rattle.artifacts.specs.declared.new_artifact.NewArtifact.{NewArtifact}
use Rattle.artifacts.specs.Batches.{given, with_holder}
use Rattle.artifacts.specs.Orders.{invocation_of}
use Rattle.artifacts.specs.Requests.{artifact_of}
use Rattle.invocations.specs.declared.invocation.Invocation.{Invocation}
use Rattle.invocations.specs.Rows.{ids_of}
use Rattle.test_results.specs.declared.exoneration.TestExoneration.{TestExoneration}
use Rattle.test_results.specs.declared.result.TestResult.{TestResult}
use Rattle.service_core.specs.MessageForms.Forms.{IsOfForm}
use Rattle.service_core.specs.MessageForms.declared.requests.Request.{Request}
use Rattle.service_core.specs.MessageForms.declared.requests.Request.TheVariants as asks
use Rattle.service_core.specs.RequestRules.Named.{place_named, places_named}
use Rattle.service_core.proofs.RequestRules.PlaceLaws.{place_holds}
use Rattle.service_effects.specs.declared.effect.Effect.{Effect}
use Rattle.service_effects.specs.declared.effect.Effect.TheVariants as does
use Rattle.service_effects.specs.Service.{Recorded}
use Rattle.service_core.specs.RequestEffects.Effects.{artifacts_at, effect_of, exonerations_at, place_of_batch, results_at}
use Rattle.service_core.proofs.RequestEffects.SafeLaws.{of_end_at, of_include_at, of_update_at}
use Rattle.service_laws.specs.Validity.{NamesItsHolder}

-- so do those that an effect adds
abbrev pub NameTheirHolders : List Invocation → Effect → Type 0
NameTheirHolders rows (does.Artifacts batch) = All (NamesItsHolder rows) batch.rows
NameTheirHolders rows _ = Unit {0}

-- the artifacts of a request that are all in one invocation, as that invocation's
given_named : (rows : List Invocation) (holder : ℕ) (id : List ℕ) (news : List NewArtifact) → slice_get (ids_of rows) holder ≡ Some id
    → All (λ (a : NewArtifact). invocation_of a.name.parent ≡ id) news → All (NamesItsHolder rows) (given holder (map artifact_of news))
given_named rows holder id [] at all = All-nil (NamesItsHolder rows)
given_named rows holder id (new ∷ news) at all =
    let IsIn : NewArtifact → Type 0 = λ a. invocation_of a.name.parent ≡ id in
    All-cons (NamesItsHolder rows) (with_holder holder (artifact_of new)) (given holder (map artifact_of news))
    (at ∙ ap (λ (x : List ℕ). Some x) (sym (All-head IsIn new news all)))
    (given_named rows holder id news at (All-tail IsIn new news all))

batch_named : (rows : List Invocation) (id : List ℕ) (news : List NewArtifact) (o : Option ℕ)
    → All (λ (a : NewArtifact). invocation_of a.name.parent ≡ id) news → place_of_batch rows news ≡ o → NameTheirHolders rows (artifacts_at o news)
batch_named rows id news None all at = tt
batch_named rows id [] (Some holder) all at = All-nil (NamesItsHolder rows)
batch_named rows id (first ∷ others) (Some holder) all at =
    let own : invocation_of first.name.parent ≡ id = All-head (λ (a : NewArtifact). invocation_of a.name.parent ≡ id) first others all in
    given_named rows holder id (first ∷ others)
    (place_holds (invocation_of first.name.parent) (ids_of rows) holder at ∙ ap (λ (x : List ℕ). Some x) own) all

results_named : (rows : List Invocation) (o : Option ℕ) (results : List TestResult) → NameTheirHolders rows (results_at o results)
results_named rows None results = tt
results_named rows (Some holder) results = tt

exonerations_named : (rows : List Invocation) (held : List TestExoneration) (o : Option ℕ) (more : List TestExoneration)
    → NameTheirHolders rows (exonerations_at held o more)
exonerations_named rows held None more = tt
exonerations_named rows held (Some holder) more = tt

pub effect_named : (w : Recorded) (moment : ℤ) (name : List ℕ) (request : Request) → IsOfForm request
    → NameTheirHolders w.rows.invocations (effect_of w moment name request)
effect_named w moment name (asks.CreateInvocation q) forms = tt
effect_named w moment name (asks.UpdateInvocation q) forms =
    of_update_at (NameTheirHolders w.rows.invocations) tt w.rows.invocations q.deadline q.tags (place_named w.rows.invocations q.id) (λ place. tt)
effect_named w moment name (asks.FinalizeInvocation q) forms =
    of_end_at (NameTheirHolders w.rows.invocations) tt w.rows.invocations (place_named w.rows.invocations q.id) (λ place. tt)
effect_named w moment name (asks.UpdateIncludedInvocations q) forms =
    of_include_at (NameTheirHolders w.rows.invocations) tt w.rows (places_named w.rows.invocations q.add)
    (place_named w.rows.invocations q.including) (λ plan. tt)
effect_named w moment name (asks.BatchCreateTestResults q) forms =
    results_named w.rows.invocations (place_named w.rows.invocations q.invocation) q.requests
effect_named w moment name (asks.BatchCreateTestExonerations q) forms =
    exonerations_named w.rows.invocations w.exonerations (place_named w.rows.invocations q.invocation) q.requests
effect_named w moment name (asks.BatchCreateArtifacts q) forms =
    batch_named w.rows.invocations forms.together.0 q.requests (place_of_batch w.rows.invocations q.requests) forms.together.1 refl
effect_named w moment name _ forms = tt
