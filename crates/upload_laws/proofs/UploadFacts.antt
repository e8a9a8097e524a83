-- A report that was uploaded within a history is recorded at its end.
use Rattle.std.proofs.Common.{◌≡◌, ◌<◌, ℕ, zero, suc, ℤ, List, [], ◌∷◌, ◌++◌, length, get_or, Some, option_map, refl, sym, ap, ◌∙◌, subst, inl, inr, arith}
use Rattle.std.specs.Prelude.{◌⊎◌, All, Contains, slice_get}
use Rattle.std.specs.List.{flat_map}
use Rattle.std.proofs.lemmas.List.Elements.{All-contains, All-head, All-same, All-tail, All-weaker}
use Rattle.std.proofs.lemmas.Option.{same_Some, slice_get-get_or, slice_get-map}
use Rattle.sha2.specs.Sha256.{sha256}
use Rattle.test_results.specs.declared.result.TestResult.{TestResult}
use Rattle.test_results.specs.Batches.{with_holder}
use Rattle.test_results.specs.Results.{key_of}
use Rattle.kept_replies.specs.declared.reply.KeptReply.{KeptReply}
use Rattle.kept_replies.specs.Kept.{IsFor, IsFree, place_for}
use Rattle.call_forms.specs.declared.asked.Asked.{Asked}
use Rattle.call_forms.specs.declared.forms.Answer.{Answer}
use Rattle.call_forms.specs.declared.forms.Told.{Told}
use Rattle.call_forms.specs.declared.forms.Told.TheVariants.{Made}
use Rattle.sink_uploads.specs.MessageForms.Reading.{Asks}
use Rattle.sink_uploads.specs.MessageForms.declared.requests.Request.{Request}
use Rattle.sink_uploads.proofs.MessageForms.RequestLaws.{one_request_asked}
use Rattle.service_laws.specs.RequestRules.Broken.{NotFound}
use Rattle.service_laws.specs.RequestDemands.Demands.{demand_of}
use Rattle.service_laws.specs.RequestRules.Named.{place_named}
use Rattle.service_laws.specs.RequestDemands.Numbered.{digest_of, kept_for}
use Rattle.service_laws.specs.RequestDemands.Order.{IsUnbroken}
use Rattle.service_laws.specs.RequestDemands.Settings.{HasNames, Settings, caller_name, caller_of}
use Rattle.service_laws.specs.RequestEffects.Places.{held_in}
use Rattle.service_effects.specs.Effects.{Makes}
use Rattle.service_effects.specs.Service.{ServiceWorld, recorded}
use Rattle.service_laws.specs.ServiceCore.History.{Entry, IsLegal, Leads, Tells}
use Rattle.service_laws.specs.Validity.{IsValid}
use Rattle.service_laws.specs.ServiceCore.Step.{IsTold, Performs, effect_for, performed, refused, repeated}
use Rattle.service_laws.proofs.ServiceCore.ClearedLaws.{accepted_found}
use Rattle.service_laws.proofs.TableLaws.{legal_lasts}
use Rattle.service_laws.proofs.ValidLaws.{leads_valid, legal_keeps_valid}
use Rattle.report_ids.specs.Digests.{report_digest}
use Rattle.sink_plans.specs.declared.plans.SinkBatch.{SinkBatch}
use Rattle.sink_uploads.specs.Requests.{batch_request}
use Rattle.upload_laws.specs.Reports.{plan_in, results_in}
use Rattle.upload_laws.specs.Sending.{AsksFor, asked_by}
use Rattle.upload_laws.specs.Uploads.{Grants, IsAloneIn, IsGranted, IsSameCall, StandsOnce, UploadedIsRecorded}
use Rattle.upload_laws.proofs.CaseFacts.{batches_have_each_case, each_gathered, names_differ}
use Rattle.upload_laws.proofs.RecordedFacts.{AreRecorded, added_recorded, found_held, leads_held, recorded_lasts, refusal_is_other}
use Rattle.upload_laws.proofs.SentFacts.{batches_are_read}

same_digest : (asked other : Asked) → IsSameCall asked other → digest_of asked ≡ digest_of other
same_digest asked other same =
    let Digest : List ℕ → List ℕ → List ℕ → List ℕ = λ service method body. sha256 (service ++ (10 ∷ (method ++ (10 ∷ body)))) in
    ap (λ (x : List ℕ). Digest x asked.method asked.body) same.service
    ∙ ap (λ (x : List ℕ). Digest other.service x asked.body) same.method
    ∙ ap (Digest other.service other.method) same.body

-- ---- one batch, which a caller asks by this

module _ (s : Settings) (names : HasNames s) (caller : ℕ) (asked : Asked) (invocation : List ℕ) (batch : SinkBatch)
    (asks : AsksFor asked (batch_request invocation batch)) where
  abbrev IsThere : ServiceWorld → Type 0
  IsThere w = AreRecorded (recorded w) invocation batch.results

  -- what is kept for its number with its digest was kept of it
  abbrev IsKeptOfIt : ServiceWorld → Type 0
  IsKeptOfIt w =
      (reply : KeptReply) → Contains w.kept reply → IsFor (caller_name s caller) batch.request_id reply → reply.digest ≡ digest_of asked → IsThere w

  unused_is_kept : (w : ServiceWorld) → IsFree w.kept (caller_name s caller) batch.request_id → IsKeptOfIt w
  unused_is_kept w free reply at own digest =
      absurd (All-contains (λ (r : KeptReply). ¬ IsFor (caller_name s caller) batch.request_id r) w.kept reply free at own)

  wanted_is : (e : Asked) (request : Request) → IsSameCall e asked → AsksFor e request → request ≡ batch_request invocation batch
  wanted_is e request same wants =
      one_request_asked asked.service asked.method asked.body request (batch_request invocation batch)
      (subst (λ (x : List ℕ). Asks asked.service asked.method x request) same.body
      (subst (λ (x : List ℕ). Asks asked.service x e.body request) same.method
      (subst (λ (x : List ℕ). Asks x e.method e.body request) same.service wants)))
      asks

  performed_there : (w : ServiceWorld) (moment : ℤ) (e : Asked) (after : ServiceWorld) (answer : Answer) (p : Performs s w moment e after answer)
      → IsSameCall e asked → IsValid after → IsThere after
  performed_there w moment e after answer p same valid =
      let is = wanted_is e p.request same p.accepted.new.wants.asks in
      added_recorded (recorded w) (recorded after) moment invocation batch.results (demand_of (batch_request invocation batch))
      (subst (λ (q : Request). IsUnbroken (NotFound w.rows.invocations (held_in (recorded w)) (demand_of q))) is (accepted_found s w moment e p.caller p.request p.accepted))
      refl valid.sound.rows
      (subst (λ (q : Request). Makes moment (effect_for s w moment p.caller q) (recorded w) (recorded after)) is p.acts.made)

  there_later : (w : ServiceWorld) (h : List Entry) (v : ServiceWorld) → IsLegal s w h v → IsValid v → IsThere w → IsThere v
  there_later w h v legal valid there =
      recorded_lasts (recorded w) (recorded v) invocation batch.results (legal_lasts s w h v legal) valid.sound.rows there

  there_after : (w : ServiceWorld) (e : Entry) (after : ServiceWorld) → Leads s w e after → IsValid after → IsThere w → IsThere after
  there_after w e after leads valid there = there_later w (e ∷ []) after (after, leads, refl) valid there

  kept_after : (w : ServiceWorld) (e : Entry) (after : ServiceWorld) → Leads s w e after → IsValid after
      → (digest_of e.asked ≡ digest_of asked → IsSameCall e.asked asked) → IsKeptOfIt w → IsKeptOfIt after
  kept_after w e after leads valid alone kept reply at own digest =
      elim (leads_held s w e after leads reply at) [
        | inl old ↦ there_after w e after leads valid (kept reply old own digest)
        | inr new ↦ performed_there new.between e.moment e.asked after new.answer new.performs (alone (sym new.digest ∙ digest)) valid
      ]

  -- a repeat of it finds what was kept of it
  repeated_there : (w between : ServiceWorld) (reply : KeptReply) → between.kept ≡ w.kept
      → kept_for between.kept (caller_name s caller) (demand_of (batch_request invocation batch)) ≡ Some reply → reply.digest ≡ digest_of asked
      → IsKeptOfIt w → IsThere w
  repeated_there w between reply same found digest kept =
      let at = found_held between.kept (caller_name s caller) batch.request_id reply
      (place_for (caller_name s caller) batch.request_id between.kept) refl found in
      kept reply (subst (λ (k : List KeptReply). Contains k reply) same at.0) at.1 digest

  told_there : (w between : ServiceWorld) (moment : ℤ) (e : Asked) (after : ServiceWorld) (answer : Answer) → between.kept ≡ w.kept
      → IsSameCall e asked → caller_of s e.bearer ≡ Some caller → IsTold s between moment e after answer → answer.status ≡ 200 → IsValid after
      → IsKeptOfIt w → IsThere w ⊎ IsThere after
  told_there w between moment e after answer same call by (refused r) good valid kept = absurd (refusal_is_other r.refusal answer r.answer_is good)
  told_there w between moment e after answer same call by (repeated r) good valid kept =
      let request = wanted_is e r.request call r.wants.asks in
      let callers : r.caller ≡ caller = same_Some r.caller caller (sym r.wants.caller_is ∙ by) in
      inl (repeated_there w between r.reply same
      (subst (λ (c : ℕ). kept_for between.kept (caller_name s c) (demand_of (batch_request invocation batch)) ≡ Some r.reply) callers
      (subst (λ (q : Request). kept_for between.kept (caller_name s r.caller) (demand_of q) ≡ Some r.reply) request r.repeated.found))
      (r.repeated.same ∙ same_digest e asked call) kept)
  told_there w between moment e after answer same call by (performed p) good valid kept =
      inr (performed_there between moment e after answer p call valid)

  granted_there : (w : ServiceWorld) (e : Entry) (after : ServiceWorld) → Leads s w e after → IsValid after → Grants s caller asked e
      → IsKeptOfIt w → IsThere after
  granted_there w e after leads valid g kept =
      let step : Tells s w e (Made g.answer) after = subst (λ (t : Told). Tells s w e t after) g.told leads.tells in
      elim (told_there w step.between e.moment e.asked after g.answer step.advances.kept g.asks g.caller_is step.judged g.good valid kept) [
        | inl before ↦ there_after w e after leads valid before
        | inr there ↦ there
      ]

  granted_at : (w : ServiceWorld) (h : List Entry) (v : ServiceWorld) (i : ℕ) (e : Entry) → IsValid w → IsLegal s w h v → IsAloneIn h asked
      → IsKeptOfIt w → i < length h → get_or h i e ≡ e → Grants s caller asked e → IsThere v
  granted_at w [] v i e valid legal alone kept low at g = absurd (omega (arith, low))
  granted_at w (x ∷ h) v zero e valid legal alone kept low at g =
      let next = leads_valid s w x legal.0 names legal.1 valid in
      there_later legal.0 h v legal.2 (legal_keeps_valid s legal.0 h v names legal.2 next)
      (granted_there w e legal.0 (subst (λ (y : Entry). Leads s w y legal.0) at legal.1) next g kept)
  granted_at w (x ∷ h) v (suc i) e valid legal alone kept low at g =
      let next = leads_valid s w x legal.0 names legal.1 valid in
      let Alone : Entry → Type 0 = λ y. digest_of y.asked ≡ digest_of asked → IsSameCall y.asked asked in
      granted_at legal.0 h v i e next legal.2 (All-tail Alone x h alone)
      (kept_after w x legal.0 legal.1 next (All-head Alone x h alone) kept) (omega (arith, low)) at g

  pub granted_recorded : (w : ServiceWorld) (h : List Entry) (v : ServiceWorld) → IsValid w → IsLegal s w h v
      → IsFree w.kept (caller_name s caller) batch.request_id → IsAloneIn h asked → IsGranted s caller h asked → IsThere v
  granted_recorded w h v valid legal free alone granted =
      granted_at w h v granted.1.0 granted.0 valid legal alone (unused_is_kept w free) granted.1.1 granted.1.2 granted.2

-- ---- each case

stands_once : (v : ServiceWorld) (invocation : List ℕ) (holder : ℕ) (result : TestResult) → IsValid v
    → place_named v.rows.invocations invocation ≡ Some holder → Contains v.results (with_holder holder result) → StandsOnce v invocation result
stands_once v invocation holder result valid here at =
    let row = with_holder holder result in
    let stands : slice_get v.results at.0 ≡ Some row = slice_get-get_or v.results at.0 row at.1 ∙ ap (λ (r : TestResult). Some r) at.2 in
    record {
      holder = holder;
      here = here;
      place = at.0;
      stands = stands;
      alone = λ other named. valid.sound.results.table.unique (key_of row) other at.0 named
          (slice_get-map key_of v.results at.0 ∙ ap (option_map key_of) stands);
    }

batch_once : (v : ServiceWorld) (invocation : List ℕ) (results : List TestResult) → IsValid v → AreRecorded (recorded v) invocation results
    → All (StandsOnce v invocation) results
batch_once v invocation results valid h =
    All-weaker (λ (r : TestResult). Contains v.results (with_holder h.holder r)) (StandsOnce v invocation)
    (λ r at. stands_once v invocation h.holder r valid h.here at) results h.stand

pub uploaded_is_recorded : UploadedIsRecorded
uploaded_is_recorded s w h v r names valid legal can up =
    let later = legal_keeps_valid s w h v names legal valid in
    let batches : List SinkBatch = (plan_in r).batches in
    let read = batches_are_read r can in
    record {
      once = All-same (StandsOnce v r.to.invocation) (results_in r) (flat_map (λ (b : SinkBatch). b.results) batches) (sym (batches_have_each_case r))
          (each_gathered (StandsOnce v r.to.invocation) batches (λ k d low.
          batch_once v r.to.invocation (get_or batches k d).results later
          (granted_recorded s names up.caller (asked_by r.to (get_or batches k d)) r.to.invocation (get_or batches k d) (read k d low) w h v valid
          legal (up.unused k d low) (up.alone k d low) (up.granted k d low))));
      apart = names_differ (report_digest r.to.invocation r.text) r.prefix r.cases can.few;
    }
