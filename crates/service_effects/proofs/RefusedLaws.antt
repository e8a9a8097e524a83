-- Whether an effect is refused.
use Rattle.std.proofs.Common.{◌≡◌, ◌≢◌, ◌⊎◌, ◌+◌, ℕ, ℤ, List, [], ◌∷◌, length, codes, refl, sym, ap, ◌∙◌, subst, inl, inr, arith}
use Rattle.std.specs.Prelude.{slice_get, All}
use Rattle.std.proofs.lemmas.List.Elements.{All-head}
use Rattle.std.proofs.lemmas.Bool.{cases_lt}
use Rattle.artifacts.specs.declared.artifact.Artifact.{Artifact}
use Rattle.artifacts.specs.declared.faults.ArtifactFault.{ArtifactFault}
use Rattle.artifacts.specs.declared.faults.ArtifactFault.TheVariants as file
use Rattle.artifacts.specs.Artifacts as files
use Rattle.artifacts.specs.Batches as artifacts
use Rattle.artifacts.specs.Requests.{DigestedState, IsSaidRight}
use Rattle.artifacts.proofs.FaultLemmas as file_faults
use Rattle.call_forms.specs.declared.forms.Refusal.{Refusal}
use Rattle.invocations.specs.declared.invocation.Invocation.{Invocation}
use Rattle.test_results.specs.declared.exoneration.TestExoneration.{TestExoneration}
use Rattle.test_results.specs.declared.faults.BatchFault.{BatchFault}
use Rattle.test_results.specs.declared.faults.BatchFault.TheVariants.{TooMany, Repeated, Taken, Full, Memory}
use Rattle.test_results.specs.declared.result.TestResult.{TestResult}
use Rattle.test_results.specs.Batches as batches
use Rattle.test_results.specs.Exonerations as exonerations
use Rattle.test_results.specs.Results as results
use Rattle.test_results.proofs.FaultLemmas.{fault_or_not, one_fault}
use Rattle.service_effects.specs.declared.effect.Effect.{Effect}
use Rattle.service_effects.specs.declared.effect.Effect.TheVariants as does
use Rattle.service_effects.specs.declared.tables.Tables.{Tables}
use Rattle.service_effects.specs.Service.{Recorded}
use Rattle.service_effects.specs.Fitting.{HasRoom, Suits, holder_in}
use Rattle.service_effects.specs.Refused.{AreArtifactsRefused, AreExonerationsRefused, AreResultsRefused, EffectRefused, IsUnrefused, IsArtifactsRefusal, IsExonerationsRefusal, IsResultsRefusal, file_name, hash_wrong, name_by, repeated, size_wrong, table_full, taken, too_many}
use Rattle.service_effects.specs.States.{recorded_in}

-- ---- batches

-- one fault is refused in one way
one_of_results : (rows : List Invocation) (batch : List TestResult) (fault : BatchFault) (r p : Refusal) → IsResultsRefusal rows batch fault r
    → IsResultsRefusal rows batch fault p → r ≡ p
one_of_results rows batch (TooMany count) r p this that = this ∙ sym that
one_of_results rows batch (Repeated first second) r p this that = this ∙ sym that
one_of_results rows batch (Taken at) r p this that = this ∙ sym that
one_of_results rows batch (Full count) r p this that = this ∙ sym that
one_of_results rows batch Memory r p this that = absurd this

one_of_exonerations : (fault : BatchFault) (r p : Refusal) → IsExonerationsRefusal fault r → IsExonerationsRefusal fault p → r ≡ p
one_of_exonerations (TooMany count) r p this that = this ∙ sym that
one_of_exonerations (Repeated first second) r p this that = absurd this
one_of_exonerations (Taken at) r p this that = absurd this
one_of_exonerations (Full count) r p this that = this ∙ sym that
one_of_exonerations Memory r p this that = absurd this

-- and each fault but want of memory is refused
refused_results : (rows : List Invocation) (batch : List TestResult) (fault : BatchFault) → fault ≢ Memory
    → (r : Refusal) × IsResultsRefusal rows batch fault r
refused_results rows batch (TooMany count) other = (too_many count, refl)
refused_results rows batch (Repeated first second) other = (repeated first second, refl)
refused_results rows batch (Taken at) other = (taken (name_by rows (slice_get batch at)), refl)
refused_results rows batch (Full count) other = (table_full (codes "results") count, refl)
refused_results rows batch Memory other = absurd (other refl)

refused_exonerations : (rows : List TestExoneration) (holder count : ℕ) (fault : BatchFault) → fault ≢ Memory
    → exonerations.IsBatchFault rows holder count fault → (r : Refusal) × IsExonerationsRefusal fault r
refused_exonerations rows holder count (TooMany found) other has = (too_many found, refl)
refused_exonerations rows holder count (Repeated first second) other has = absurd has
refused_exonerations rows holder count (Taken at) other has = absurd has
refused_exonerations rows holder count (Full found) other has = (table_full (codes "exonerations") found, refl)
refused_exonerations rows holder count Memory other has = absurd (other refl)

-- a batch is refused, or it can come in
results_refused_or_not : (w : Recorded) (batch : List TestResult)
    → ((r : Refusal) × AreResultsRefused w batch r) ⊎ batches.CanAdd w.results (holder_in (results.holders_of batch)) batch
results_refused_or_not w batch =
    elim (fault_or_not.0 w.results (holder_in (results.holders_of batch)) batch) [
      | inl can ↦ inr can
      | inr has ↦ let r = refused_results w.rows.invocations batch has.0 has.1 in
          inl (r.0, record { fault = has.0; has = has.2; refusal_is = r.1 })
    ]

exonerations_refused_or_not : (w : Recorded) (batch : List TestExoneration)
    → ((r : Refusal) × AreExonerationsRefused w batch r)
    ⊎ exonerations.CanAdd w.exonerations (holder_in (exonerations.holders_of batch)) (length batch)
exonerations_refused_or_not w batch =
    let holder = holder_in (exonerations.holders_of batch) in
    elim (fault_or_not.1 w.exonerations holder (length batch)) [
      | inl can ↦ inr can
      | inr has ↦ let r = refused_exonerations w.exonerations holder (length batch) has.0 has.1 has.2 in
          inl (r.0, record { fault = has.0; has = has.2; refusal_is = r.1 })
    ]

-- which isn't refused, where it can
results_unrefused : (w : Recorded) (batch : List TestResult) → batches.CanAdd w.results (holder_in (results.holders_of batch)) batch
    → ((r : Refusal) → ¬ AreResultsRefused w batch r)
results_unrefused w batch can r h =
    subst (λ (f : BatchFault). IsResultsRefusal w.rows.invocations batch f r)
    (one_fault.0 w.results (holder_in (results.holders_of batch)) batch h.fault Memory h.has can) h.refusal_is

exonerations_unrefused : (w : Recorded) (batch : List TestExoneration)
    → exonerations.CanAdd w.exonerations (holder_in (exonerations.holders_of batch)) (length batch)
    → ((r : Refusal) → ¬ AreExonerationsRefused w batch r)
exonerations_unrefused w batch can r h =
    subst (λ (f : BatchFault). IsExonerationsRefusal f r)
    (one_fault.1 w.exonerations (holder_in (exonerations.holders_of batch)) (length batch) h.fault Memory h.has can) h.refusal_is

pub results_can : (w : Recorded) (batch : List TestResult) → ((r : Refusal) → ¬ AreResultsRefused w batch r)
    → batches.CanAdd w.results (holder_in (results.holders_of batch)) batch
results_can w batch unbroken =
    elim (results_refused_or_not w batch) [ inl refused ↦ absurd (unbroken refused.0 refused.1) | inr can ↦ can ]

pub exonerations_can : (w : Recorded) (batch : List TestExoneration) → ((r : Refusal) → ¬ AreExonerationsRefused w batch r)
    → exonerations.CanAdd w.exonerations (holder_in (exonerations.holders_of batch)) (length batch)
exonerations_can w batch unbroken =
    elim (exonerations_refused_or_not w batch) [ inl refused ↦ absurd (unbroken refused.0 refused.1) | inr can ↦ can ]

one_of_artifacts : (batch : DigestedState) (fault : ArtifactFault) (r p : Refusal) → IsArtifactsRefusal batch fault r
    → IsArtifactsRefusal batch fault p → r ≡ p
one_of_artifacts batch (file.TooMany count) r p this that = this ∙ sym that
one_of_artifacts batch (file.Repeated first second) r p this that = this ∙ sym that
one_of_artifacts batch (file.SizeWrong at said found) r p this that = this ∙ sym that
one_of_artifacts batch (file.HashWrong at said found) r p this that = this ∙ sym that
one_of_artifacts batch (file.Taken at) r p this that = this ∙ sym that
one_of_artifacts batch (file.Full count) r p this that = this ∙ sym that
one_of_artifacts batch file.Memory r p this that = absurd this

refused_artifacts : (batch : DigestedState) (fault : ArtifactFault) → fault ≢ file.Memory → (r : Refusal) × IsArtifactsRefusal batch fault r
refused_artifacts batch (file.TooMany count) other = (too_many count, refl)
refused_artifacts batch (file.Repeated first second) other = (repeated first second, refl)
refused_artifacts batch (file.SizeWrong at said found) other = (size_wrong at said found, refl)
refused_artifacts batch (file.HashWrong at said found) other = (hash_wrong at said found, refl)
refused_artifacts batch (file.Taken at) other = (taken (file_name (slice_get batch.rows at)), refl)
refused_artifacts batch (file.Full count) other = (table_full (codes "artifacts") count, refl)
refused_artifacts batch file.Memory other = absurd (other refl)

artifacts_refused_or_not : (w : Recorded) (batch : DigestedState)
    → ((r : Refusal) × AreArtifactsRefused w batch r)
    ⊎ artifacts.CanCome w.artifacts (holder_in (files.holders_of batch.rows)) batch
artifacts_refused_or_not w batch =
    elim (file_faults.fault_or_can_come w.artifacts (holder_in (files.holders_of batch.rows)) batch) [
      | inl can ↦ inr can
      | inr has ↦ let r = refused_artifacts batch has.0 has.1 in
          inl (r.0, record { fault = has.0; has = has.2; refusal_is = r.1 })
    ]

artifacts_unrefused : (w : Recorded) (batch : DigestedState) → artifacts.CanCome w.artifacts (holder_in (files.holders_of batch.rows)) batch
    → ((r : Refusal) → ¬ AreArtifactsRefused w batch r)
artifacts_unrefused w batch can r h =
    subst (λ (f : ArtifactFault). IsArtifactsRefusal batch f r)
    (file_faults.one_fault w.artifacts (holder_in (files.holders_of batch.rows)) batch h.fault file.Memory h.has can) h.refusal_is

pub artifacts_can : (w : Recorded) (batch : DigestedState) → ((r : Refusal) → ¬ AreArtifactsRefused w batch r)
    → artifacts.CanCome w.artifacts (holder_in (files.holders_of batch.rows)) batch
artifacts_can w batch unbroken =
    elim (artifacts_refused_or_not w batch) [ inl refused ↦ absurd (unbroken refused.0 refused.1) | inr can ↦ can ]

-- ---- effects

-- it is told in one way
pub one_refusal : (w : Recorded) (effect : Effect) (r p : Refusal) → EffectRefused w effect r → EffectRefused w effect p → r ≡ p
one_refusal w does.Nothing r p this that = absurd this
one_refusal w (does.Add row) r p this that = this.1 ∙ sym that.1
one_refusal w (does.Update place deadline tags) r p this that = absurd this
one_refusal w (does.End place) r p this that = absurd this
one_refusal w (does.Include plan) r p this that = this.1 ∙ sym that.1
one_refusal w (does.Results batch) r p this that =
    one_of_results w.rows.invocations batch that.fault r p
    (subst (λ (f : BatchFault). IsResultsRefusal w.rows.invocations batch f r)
    (one_fault.0 w.results (holder_in (results.holders_of batch)) batch this.fault that.fault this.has that.has) this.refusal_is)
    that.refusal_is
one_refusal w (does.Exonerations batch) r p this that =
    one_of_exonerations that.fault r p
    (subst (λ (f : BatchFault). IsExonerationsRefusal f r)
    (one_fault.1 w.exonerations (holder_in (exonerations.holders_of batch)) (length batch) this.fault that.fault this.has that.has)
    this.refusal_is)
    that.refusal_is
one_refusal w (does.Artifacts batch) r p this that =
    one_of_artifacts batch that.fault r p
    (subst (λ (f : ArtifactFault). IsArtifactsRefusal batch f r)
    (file_faults.one_fault w.artifacts (holder_in (files.holders_of batch.rows)) batch this.fault that.fault this.has that.has)
    this.refusal_is)
    that.refusal_is

-- and can be told
pub refused_or_not : (w : Recorded) (effect : Effect) → ((r : Refusal) × EffectRefused w effect r) ⊎ IsUnrefused w effect
refused_or_not w does.Nothing = inr (λ r never. never)
refused_or_not w (does.Add row) =
    elim (cases_lt (length w.rows.invocations) 65_536) [
      | inl less ↦ inr (λ r full. let many = full.0 in absurd (omega (arith, less, many)))
      | inr many ↦ inl (table_full (codes "invocations") (length w.rows.invocations), (omega (arith, many), refl))
    ]
refused_or_not w (does.Update place deadline tags) = inr (λ r never. never)
refused_or_not w (does.End place) = inr (λ r never. never)
refused_or_not w (does.Include plan) =
    elim (cases_lt 262_144 (length w.rows.inclusions + length plan.targets)) [
      | inl many ↦ inl (table_full (codes "inclusions") (length w.rows.inclusions), (many, refl))
      | inr few ↦ inr (λ r full. let many = full.0 in absurd (omega (arith, few, many)))
    ]
refused_or_not w (does.Results batch) =
    elim (results_refused_or_not w batch) [ inl refused ↦ inl refused | inr can ↦ inr (results_unrefused w batch can) ]
refused_or_not w (does.Exonerations batch) =
    elim (exonerations_refused_or_not w batch) [ inl refused ↦ inl refused | inr can ↦ inr (exonerations_unrefused w batch can) ]
refused_or_not w (does.Artifacts batch) =
    elim (artifacts_refused_or_not w batch) [ inl refused ↦ inl refused | inr can ↦ inr (artifacts_unrefused w batch can) ]

-- ---- what can be done isn't refused

-- the holder of the rows of a batch
pub holder_of_results : (holder : ℕ) (batch : List TestResult) → results.holders_of batch ≢ [] → All (λ row. row.holder ≡ holder) batch
    → holder_in (results.holders_of batch) ≡ holder
holder_of_results holder [] some held = absurd (some refl)
holder_of_results holder (row ∷ rows) some held = All-head (λ (r : TestResult). r.holder ≡ holder) row rows held

pub holder_of_given : (holder before : ℕ) (asked : List TestExoneration) → exonerations.holders_of (exonerations.given holder before asked) ≢ []
    → holder_in (exonerations.holders_of (exonerations.given holder before asked)) ≡ holder
holder_of_given holder before [] some = absurd (some refl)
holder_of_given holder before (row ∷ rows) some = refl

results_have_room : (held : Tables) (batch : List TestResult) → results.holders_of batch ≢ [] → batches.Fits held.results batch
    → ((r : Refusal) → ¬ AreResultsRefused (recorded_in held) batch r)
results_have_room held batch some fits =
    results_unrefused (recorded_in held) batch
    (subst (λ (h : ℕ). batches.CanAdd held.results.rows h batch) (sym (holder_of_results fits.holder batch some fits.held)) fits.can)

exonerations_have_room : (held : Tables) (batch : List TestExoneration) → exonerations.holders_of batch ≢ []
    → exonerations.Fits held.exonerations batch → ((r : Refusal) → ¬ AreExonerationsRefused (recorded_in held) batch r)
exonerations_have_room held batch some fits =
    let before = length (exonerations.places_in held.exonerations.rows fits.holder) in
    let of_given = holder_of_given fits.holder before fits.asked
    (subst (λ (b : List TestExoneration). exonerations.holders_of b ≢ []) fits.placed some) in
    let holder_is : holder_in (exonerations.holders_of batch) ≡ fits.holder =
    ap (λ (b : List TestExoneration). holder_in (exonerations.holders_of b)) fits.placed ∙ of_given in
    exonerations_unrefused (recorded_in held) batch
    (subst (λ (h : ℕ). exonerations.CanAdd held.exonerations.rows h (length batch)) (sym holder_is) fits.can)

pub holder_of_files : (holder : ℕ) (batch : List Artifact) → files.holders_of batch ≢ [] → All (λ row. row.holder ≡ holder) batch
    → holder_in (files.holders_of batch) ≡ holder
holder_of_files holder [] some held = absurd (some refl)
holder_of_files holder (row ∷ rows) some held = All-head (λ (r : Artifact). r.holder ≡ holder) row rows held

artifacts_have_room : (held : Tables) (batch : DigestedState) → files.holders_of batch.rows ≢ [] → artifacts.Fits held.artifacts batch.rows
    → IsSaidRight batch (length batch.rows) → ((r : Refusal) → ¬ AreArtifactsRefused (recorded_in held) batch r)
artifacts_have_room held batch some fits said =
    artifacts_unrefused (recorded_in held) batch
    (subst (λ (h : ℕ). artifacts.CanCome held.artifacts.rows h batch) (sym (holder_of_files fits.holder batch.rows some fits.held))
    (record { said = said; can = fits.can }))

pub unrefused : (held : Tables) (moment : ℤ) (effect : Effect) → Suits held.world.world moment effect → HasRoom held effect
    → IsUnrefused (recorded_in held) effect
unrefused held moment does.Nothing may room r never = never
unrefused held moment (does.Add row) may room r full = let many = full.0 in omega (arith, room.0, many)
unrefused held moment (does.Update place deadline tags) may room r never = never
unrefused held moment (does.End place) may room r never = never
unrefused held moment (does.Include plan) may room r full = let many = full.0 in omega (arith, room.0, many)
unrefused held moment (does.Results batch) may room r refused = results_have_room held batch may.some room r refused
unrefused held moment (does.Exonerations batch) may room r refused = exonerations_have_room held batch may.some room r refused
unrefused held moment (does.Artifacts batch) may room r refused = artifacts_have_room held batch may.batch.some room.0 room.1 r refused
