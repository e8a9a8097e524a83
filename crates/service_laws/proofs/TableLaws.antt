-- What is recorded lasts: rows stay, and others come behind them.
use Rattle.std.proofs.Common.{◌≡◌, ◌≤◌, ◌+◌, ℕ, ℤ, List, [], ◌∷◌, ◌++◌, inl, inr, refl, sym, ap, ◌∙◌, subst, length, take, drop, arith, append_assoc}
use Rattle.std.proofs.lemmas.List.{append-nil, drop-append-le, length-drop, take-append-le}
use Rattle.artifacts.specs.declared.artifact.Artifact.{Artifact}
use Rattle.test_results.specs.declared.exoneration.TestExoneration.{TestExoneration}
use Rattle.test_results.specs.declared.result.TestResult.{TestResult}
use Rattle.service_core.specs.RequestDemands.Settings.{Settings}
use Rattle.service_effects.specs.declared.effect.Effect.{Effect}
use Rattle.service_effects.specs.declared.effect.Effect.TheVariants as does
use Rattle.service_effects.specs.Effects.{Makes, artifacts_after, exonerations_after, results_after}
use Rattle.service_effects.specs.Service.{Recorded, ServiceWorld, recorded}
use Rattle.service_core.specs.RequestEffects.Shows.{part_of}
use Rattle.service_core.specs.Service.{CarriesDue}
use Rattle.service_core.specs.History.{Entry, IsLegal, Leads}
use Rattle.service_laws.specs.Laws.{ArtifactsStay, ExonerationsStay, ResultsStay}
use Rattle.service_laws.proofs.MoveLaws.{IsMoved, Moves, tells_moves}
use Rattle.service_laws.proofs.StayLaws.{AllStay, acted_stay, advance_stay, all_stay, stay_both}

-- a list with some more behind it
abbrev pub Grows : {A : Type 0} → List A → List A → Type 0
Grows {A} old new = (more : List A) × (new ≡ old ++ more)

pub grow_same : {A : Type 0} (old new : List A) → new ≡ old → Grows old new
grow_same old new same = ([], same ∙ sym (append-nil old))

pub grow_both : {A : Type 0} (a b c : List A) → Grows a b → Grows b c → Grows a c
grow_both {A} a b c first second =
    (first.0 ++ second.0, second.1 ∙ (ap (λ (k : List A). k ++ second.0) first.1 ∙ append_assoc a first.0 second.0))

-- a part of what is there stays where others come behind it
pub part_stays : {A : Type 0} (old new : List A) (first count : ℕ) → Grows old new → first + count ≤ length old
    → part_of first count new ≡ part_of first count old
part_stays {A} old new first count grows low =
    let front : first ≤ length old = omega (arith, low) in
    let back : count ≤ length (drop first old) = omega (arith, low, length-drop first old) in
    ap (λ (xs : List A). part_of first count xs) grows.1
    ∙ (ap (take count) (drop-append-le first old grows.0 front) ∙ take-append-le count (drop first old) grows.0 back)

-- the invocations stay, each the same one, and results, exonerations and artifacts come behind the others
pub record Lasts (old new : Recorded) : Type 0 where
  pub rows : AllStay old.rows.invocations new.rows.invocations
  pub results : Grows old.results new.results
  pub exonerations : Grows old.exonerations new.exonerations
  pub artifacts : Grows old.artifacts new.artifacts

itself : (w : Recorded) → Lasts w w
itself w = record {
  rows = all_stay w.rows.invocations;
  results = grow_same w.results w.results refl;
  exonerations = grow_same w.exonerations w.exonerations refl;
  artifacts = grow_same w.artifacts w.artifacts refl;
}

pub lasts_same : (old new : Recorded) → new ≡ old → Lasts old new
lasts_same old new same = subst (Lasts old) (sym same) (itself old)

pub lasts_both : (a b c : Recorded) → Lasts a b → Lasts b c → Lasts a c
lasts_both a b c first second = record {
  rows = stay_both a.rows.invocations b.rows.invocations c.rows.invocations first.rows second.rows;
  results = grow_both a.results b.results c.results first.results second.results;
  exonerations = grow_both a.exonerations b.exonerations c.exonerations first.exonerations second.exonerations;
  artifacts = grow_both a.artifacts b.artifacts c.artifacts first.artifacts second.artifacts;
}

results_more : (effect : Effect) (rows : List TestResult) → Grows rows (results_after effect rows)
results_more does.Nothing rows = grow_same rows rows refl
results_more (does.Add row) rows = grow_same rows rows refl
results_more (does.Update place deadline tags) rows = grow_same rows rows refl
results_more (does.End place) rows = grow_same rows rows refl
results_more (does.Include plan) rows = grow_same rows rows refl
results_more (does.Results batch) rows = (batch, refl)
results_more (does.Exonerations batch) rows = grow_same rows rows refl
results_more (does.Artifacts batch) rows = grow_same rows rows refl

exonerations_more : (effect : Effect) (rows : List TestExoneration) → Grows rows (exonerations_after effect rows)
exonerations_more does.Nothing rows = grow_same rows rows refl
exonerations_more (does.Add row) rows = grow_same rows rows refl
exonerations_more (does.Update place deadline tags) rows = grow_same rows rows refl
exonerations_more (does.End place) rows = grow_same rows rows refl
exonerations_more (does.Include plan) rows = grow_same rows rows refl
exonerations_more (does.Results batch) rows = grow_same rows rows refl
exonerations_more (does.Exonerations batch) rows = (batch, refl)
exonerations_more (does.Artifacts batch) rows = grow_same rows rows refl

artifacts_more : (effect : Effect) (rows : List Artifact) → Grows rows (artifacts_after effect rows)
artifacts_more does.Nothing rows = grow_same rows rows refl
artifacts_more (does.Add row) rows = grow_same rows rows refl
artifacts_more (does.Update place deadline tags) rows = grow_same rows rows refl
artifacts_more (does.End place) rows = grow_same rows rows refl
artifacts_more (does.Include plan) rows = grow_same rows rows refl
artifacts_more (does.Results batch) rows = grow_same rows rows refl
artifacts_more (does.Exonerations batch) rows = grow_same rows rows refl
artifacts_more (does.Artifacts batch) rows = (batch.rows, refl)

pub made_lasts : (w : Recorded) (moment : ℤ) (effect : Effect) (after : Recorded) → Makes moment effect w after → Lasts w after
made_lasts w moment effect after made =
    let results = results_more effect w.results in
    let exonerations = exonerations_more effect w.exonerations in
    let artifacts = artifacts_more effect w.artifacts in
    record {
      rows = acted_stay w.rows moment effect after.rows made.rows;
      results = (results.0, made.results ∙ results.1);
      exonerations = (exonerations.0, made.exonerations ∙ exonerations.1);
      artifacts = (artifacts.0, made.artifacts ∙ artifacts.1);
    }

pub due_lasts : (w : Recorded) (moment : ℤ) (after : Recorded) → CarriesDue w moment after → Lasts w after
due_lasts w moment after due = record {
  rows = advance_stay moment w.rows after.rows due.rows;
  results = grow_same w.results after.results due.results;
  exonerations = grow_same w.exonerations after.exonerations due.exonerations;
  artifacts = grow_same w.artifacts after.artifacts due.artifacts;
}

moved_lasts : (s : Settings) (w : Recorded) (moment : ℤ) (after : Recorded) → IsMoved s w moment after → Lasts w after
moved_lasts s w moment after (inl same) = lasts_same w after same
moved_lasts s w moment after (inr done) = made_lasts w moment done.effect after done.made

moves_lasts : (s : Settings) (w : Recorded) (moment : ℤ) (after : Recorded) → Moves s w moment after → Lasts w after
moves_lasts s w moment after h =
    lasts_both w h.between after (due_lasts w moment h.between h.due) (moved_lasts s h.between moment after h.moved)

leads_lasts : (s : Settings) (w : ServiceWorld) (e : Entry) (after : ServiceWorld) → Leads s w e after → Lasts (recorded w) (recorded after)
leads_lasts s w e after leads =
    elim (tells_moves s w e e.told after leads.tells) [
      | inl same ↦ lasts_same (recorded w) (recorded after) (ap recorded same)
      | inr moves ↦ moves_lasts s (recorded w) e.moment (recorded after) moves
    ]

pub legal_lasts : (s : Settings) (w : ServiceWorld) (h : List Entry) (v : ServiceWorld) → IsLegal s w h v → Lasts (recorded w) (recorded v)
legal_lasts s w [] v end = lasts_same (recorded w) (recorded v) (ap recorded end)
legal_lasts s w (e ∷ h) v legal =
    lasts_both (recorded w) (recorded legal.0) (recorded v) (leads_lasts s w e legal.0 legal.1) (legal_lasts s legal.0 h v legal.2)

pub results_stay : ResultsStay
results_stay s w h v legal = (legal_lasts s w h v legal).results

pub exonerations_stay : ExonerationsStay
exonerations_stay s w h v legal = (legal_lasts s w h v legal).exonerations

pub artifacts_stay : ArtifactsStay
artifacts_stay s w h v legal = (legal_lasts s w h v legal).artifacts
