-- Artifacts are shown as they were recorded.
use Rattle.std.proofs.Common.{◌≡◌, ◌⊎◌, ℕ, ℤ, List, map, Option, Some, None, option_map, refl, sym, ap, ◌∙◌, subst, inl, inr, arith}
use Rattle.std.specs.Prelude.{Contains, slice_get}
use Rattle.std.proofs.lemmas.List.{get_or-map, length-map}
use Rattle.std.proofs.lemmas.List.Elements.{All-contains, Contains-append_left, Contains-append_right}
use Rattle.std.proofs.lemmas.Option.{none-some, slice_get-get_or, slice_get-map}
use Rattle.artifacts.specs.declared.artifact.Artifact.{Artifact}
use Rattle.artifacts.specs.declared.new_artifact.NewArtifact.{NewArtifact}
use Rattle.artifacts.specs.Artifacts.{IsTable, Key, key_of, named}
use Rattle.artifacts.specs.Batches.{given, with_holder}
use Rattle.artifacts.specs.Orders.{invocation_of}
use Rattle.artifacts.specs.Requests.{artifact_of}
use Rattle.call_forms.specs.declared.asked.Asked.{Asked}
use Rattle.call_forms.specs.declared.forms.Answer.{Answer}
use Rattle.call_forms.specs.declared.forms.Told.{Told}
use Rattle.service_core.specs.MessageForms.declared.requests.Request.{Request}
use Rattle.service_core.specs.MessageForms.declared.requests.Request.TheVariants as asks
use Rattle.service_core.proofs.MessageForms.FormLaws.{asked_is_of_form}
use Rattle.service_core.specs.MessageForms.Forms.{IsOfForm}
use Rattle.service_core.specs.RequestDemands.Demands.{demand_of}
use Rattle.service_core.specs.RequestDemands.Numbered.{kept_for}
use Rattle.service_core.specs.RequestDemands.Order.{IsUnbroken}
use Rattle.service_core.specs.RequestDemands.Settings.{Settings, caller_name}
use Rattle.service_core.proofs.RequestDemands.AloneFacts.{one_request}
use Rattle.service_core.specs.RequestRules.Broken.{NotFound}
use Rattle.service_core.specs.RequestRules.Named.{artifact_held, is_keyed, place_named, place_of_artifact}
use Rattle.service_core.proofs.RequestRules.ArtifactPlaces.{keys_decided}
use Rattle.service_core.proofs.RequestRules.KeyPlaces.{place_found}
use Rattle.service_core.proofs.RequestRules.PlaceLaws.{placed}
use Rattle.service_effects.specs.Effects.{Makes}
use Rattle.service_effects.specs.Service.{Recorded, ServiceWorld, recorded}
use Rattle.service_core.specs.RequestEffects.Answers.{Answers, artifact_answer}
use Rattle.service_core.specs.RequestEffects.Effects.{artifacts_at, place_of_batch}
use Rattle.service_core.specs.RequestEffects.Places.{held_in}
use Rattle.service_core.specs.RequestEffects.Shows.{shows_artifact, shows_of}
use Rattle.service_core.specs.History.{Tells}
use Rattle.service_core.specs.Step.{IsTold, Step, effect_for, performed, refused, repeated, scene_of}
use Rattle.service_core.proofs.ClearedLaws.{accepted_found}
use Rattle.service_core.proofs.HistoryLaws.{advanced_timely}
use Rattle.service_laws.specs.Shown.{AsksForFile, IsRefusedBy, RecordedIsShown, Records, ShowsWhole}
use Rattle.service_laws.specs.Validity.{NamesItsHolder}
use Rattle.service_laws.proofs.OnceLaws.{batch_found}
use Rattle.service_laws.proofs.StayLaws.{advance_stay}
use Rattle.service_laws.proofs.TableLaws.{legal_lasts}
use Rattle.service_laws.proofs.ValidLaws.{legal_keeps_valid, named_still}

-- ---- what a batch adds

mapped : {A B : Type 0} (f : A → B) (xs : List A) (x : A) → Contains xs x → Contains (map f xs) (f x)
mapped {A} {B} f xs x at =
    let low = at.1 in
    (at.0, omega (arith, low, length-map xs f), get_or-map f xs at.0 x (f x) low ∙ ap f at.2)

added : (w after : Recorded) (moment : ℤ) (news : List NewArtifact) (new : NewArtifact) (o : Option ℕ) → Contains news new → (o ≡ None → ⊥)
    → Makes moment (artifacts_at o news) w after → (holder : ℕ) × Contains after.artifacts (with_holder holder (artifact_of new))
added w after moment news new None among found made = absurd (found refl)
added w after moment news new (Some holder) among found made =
    let rows = map artifact_of news in
    let row = with_holder holder (artifact_of new) in (
      holder,
      subst (λ (files : List Artifact). Contains files row) (sym made.artifacts)
          (Contains-append_right w.artifacts (given holder rows) row
          (mapped (with_holder holder) rows (artifact_of new) (mapped artifact_of news new among))),
    )

recorded_there : (s : Settings) (w : ServiceWorld) (moment : ℤ) (asked : Asked) (after : ServiceWorld) (new : NewArtifact)
    → Records s w moment asked after new → (holder : ℕ) × Contains after.artifacts (with_holder holder (artifact_of new))
recorded_there s w moment asked after new r =
    let p = r.performs in
    let news = r.batch.requests in
    let request : Request = asks.BatchCreateArtifacts r.batch in
    let form : IsOfForm request =
    subst IsOfForm r.request_is (asked_is_of_form asked.service asked.method asked.body p.request p.accepted.new.wants.asks) in
    let found : IsUnbroken (NotFound w.rows.invocations (held_in (recorded w)) (demand_of request)) =
    subst (λ (q : Request). IsUnbroken (NotFound w.rows.invocations (held_in (recorded w)) (demand_of q))) r.request_is
    (accepted_found s w moment asked p.caller p.request p.accepted) in
    added (recorded w) (recorded after) moment news new (place_of_batch w.rows.invocations news) r.among
    (batch_found w.rows.invocations (held_in (recorded w)) r.batch.request_id news form.some found)
    (subst (λ (q : Request). Makes moment (effect_for s w moment p.caller q) (recorded w) (recorded after)) r.request_is p.acts.made)

-- ---- where it is found

held_at : (files : List Artifact) (row : Artifact) → IsTable files → (at : Contains files row)
    → artifact_held files row.name (Some row.holder) ≡ Some at.0
held_at files row table at =
    let key : Key = named row.holder row.name in
    let here : slice_get (map key_of files) at.0 ≡ Some key =
    slice_get-map key_of files at.0
    ∙ ap (option_map key_of) (slice_get-get_or files at.0 row at.1 ∙ ap (λ (r : Artifact). Some r) at.2) in
    sym (place_found key_of is_keyed keys_decided files key (Some at.0) (λ i j. table.unique key i j) here)

-- ---- what is told

-- who holds it isn't shown
told_whole : (s : Settings) (w : ServiceWorld) (moment : ℤ) (asked : Asked) (end : ServiceWorld) (answer : Answer) (new : NewArtifact)
    (holder place : ℕ) (a : AsksForFile s asked new.name) → place_of_artifact w.rows.invocations w.artifacts new.name ≡ Some place
    → slice_get w.artifacts place ≡ Some (with_holder holder (artifact_of new)) → IsTold s w moment asked end answer
    → ShowsWhole new answer ⊎ IsRefusedBy answer
told_whole s w moment asked end answer new holder place a found here (refused r) = inr (r.refusal, r.answer_is)
told_whole s w moment asked end answer new holder place a found here (repeated r) =
    let is : r.request ≡ asks.GetArtifact a.request =
    one_request s asked r.caller a.caller r.request (asks.GetArtifact a.request) r.wants a.wants in
    absurd (none-some r.reply
    (subst (λ (q : Request). kept_for w.kept (caller_name s r.caller) (demand_of q) ≡ Some r.reply) is r.repeated.found))
told_whole s w moment asked end answer new holder place a found here (performed p) =
    let request : Request = asks.GetArtifact a.request in
    let is : p.request ≡ request = one_request s asked p.caller a.caller p.request request p.accepted.new.wants a.wants in
    let made = subst (λ (q : Request). Makes moment (effect_for s w moment p.caller q) (recorded w) (recorded end)) is p.acts.made in
    let same : end.artifacts ≡ w.artifacts = made.artifacts in
    let at : place_of_artifact w.rows.invocations w.artifacts a.request.name ≡ Some place =
    ap (place_of_artifact w.rows.invocations w.artifacts) a.name_is ∙ found in
    let told : answer ≡ artifact_answer (scene_of s end) (slice_get end.artifacts place) =
    subst (λ (o : Option ℕ). Answers (scene_of s end) p.caller (shows_artifact o) answer) at
    (subst (λ (q : Request). Answers (scene_of s end) p.caller (shows_of (recorded w) q) answer) is p.answers) in
    inl (told ∙ ap (artifact_answer (scene_of s end)) (ap (λ (files : List Artifact). slice_get files place) same ∙ here))

pub recorded_is_shown : RecordedIsShown
recorded_is_shown s w moment asked after new h v e end answer names valid r legal leads a is =
    let later = legal_keeps_valid s after h v names legal valid in
    let first = recorded_there s w moment asked after new r in
    let row = with_holder first.0 (artifact_of new) in
    let lasts = legal_lasts s after h v legal in
    let at : Contains v.artifacts row =
    subst (λ (files : List Artifact). Contains files row) (sym lasts.artifacts.1)
    (Contains-append_left after.artifacts lasts.artifacts.0 row first.1) in
    let step : Step s v e.moment e.asked end answer = subst (λ (t : Told). Tells s v e t end) is leads.tells in
    let between = step.between in
    let same : between.artifacts ≡ v.artifacts = step.advances.due.artifacts in
    let named_there = named_still v.rows.invocations between.rows.invocations row
    (advance_stay e.moment v.rows between.rows step.advances.due.rows)
    (All-contains (NamesItsHolder v.rows.invocations) v.artifacts row later.named at) in
    let timely = advanced_timely v.rows between.rows e.moment later.sound.rows leads.moment leads.later step.advances.due.rows in
    let holds : place_named between.rows.invocations (invocation_of new.name.parent) ≡ Some first.0 =
    placed between.rows.invocations (invocation_of new.name.parent) first.0 timely.valid.table named_there in
    let stands : Contains between.artifacts row = subst (λ (files : List Artifact). Contains files row) (sym same) at in
    let found : place_of_artifact between.rows.invocations between.artifacts new.name ≡ Some stands.0 =
    ap (artifact_held between.artifacts new.name) holds
    ∙ held_at between.artifacts row (subst IsTable (sym same) later.sound.artifacts.table) stands in
    let here : slice_get between.artifacts stands.0 ≡ Some row =
    slice_get-get_or between.artifacts stands.0 row stands.1 ∙ ap (λ (r : Artifact). Some r) stands.2 in
    told_whole s between e.moment e.asked end answer new first.0 stands.0 a found here step.judged
