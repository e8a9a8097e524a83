-- What is final stays as it is, with all that it holds and reaches.
use Rattle.std.proofs.Common.{◌≡◌, ◌≢◌, ℕ, ℤ, ◌≤ℤ◌, List, [], ◌∷◌, ◌++◌, inl, inr, refl, sym, ap, ◌∙◌, subst, append_assoc}
use Rattle.std.specs.List.{All}
use Rattle.std.proofs.lemmas.List.{append-nil, map-append}
use Rattle.std.proofs.lemmas.List.Elements.{All-head, All-tail, All-weaker}
use Rattle.names_realms.specs.declared.states.State.TheVariants.{Active, Finalized}
use Rattle.inclusion_graph.specs.Edges.{edges_from}
use Rattle.invocations.specs.Rows.{IsInState}
use Rattle.artifacts.specs.declared.artifact.Artifact.{Artifact}
use Rattle.artifacts.specs.Artifacts as artifacts
use Rattle.artifacts.specs.Places.{places_of as files_of}
use Rattle.artifacts.proofs.PlaceLemmas.{places_others as files_others}
use Rattle.test_results.specs.declared.exoneration.TestExoneration.{TestExoneration}
use Rattle.test_results.specs.declared.result.TestResult.{TestResult}
use Rattle.test_results.specs.Exonerations as exonerations
use Rattle.test_results.specs.Places.{places_of}
use Rattle.test_results.specs.Results as results
use Rattle.test_results.proofs.PlaceLemmas.{places_others}
use Rattle.invocation_world.specs.World.{World, IsCallMoment, IsValid}
use Rattle.invocation_world.specs.Changes.{with_edges}
use Rattle.invocation_world.specs.Laws.{KeepsFinal}
use Rattle.invocation_world.proofs.FinalFacts.{advance_final, begin_final, both_final, inclusions_final, itself_final, moment_final, row_final, settling_final, update_final}
use Rattle.invocation_world.proofs.RowFacts.{active≢finalized, apart, row_in, state_is}
use Rattle.service_core.specs.RequestDemands.Settings.{Settings, HasNames}
use Rattle.service_effects.specs.declared.effect.Effect.{Effect}
use Rattle.service_effects.specs.declared.effect.Effect.TheVariants as does
use Rattle.service_effects.specs.Effects.{artifacts_after, exonerations_after, results_after, with_effect}
use Rattle.service_effects.specs.Fitting.{IsBatchFor, IsTimely, Suits, holder_in}
use Rattle.service_effects.proofs.EffectLaws.{all_new}
use Rattle.service_effects.specs.Service.{Recorded, ServiceWorld, recorded}
use Rattle.service_laws.specs.Validity as services
use Rattle.service_core.specs.History.{Entry, IsLegal, Leads}
use Rattle.service_laws.specs.Laws.{FinalStays}
use Rattle.service_laws.proofs.MoveLaws.{IsMoved, Moves, tells_moves}
use Rattle.service_core.proofs.HistoryLaws.{advanced_timely}
use Rattle.service_laws.proofs.ValidLaws.{leads_valid}

same_final : (w after : World) → after ≡ w → KeepsFinal w after
same_final w after same = subst (KeepsFinal w) (sym same) (itself_final w)

-- what an effect does
effect_final : (w : World) (moment : ℤ) (effect : Effect) → IsValid w → Suits w moment effect → KeepsFinal w (with_effect moment effect w)
effect_final w moment does.Nothing valid may = itself_final w
effect_final w moment (does.Add row) valid may = row_final w row
effect_final w moment (does.Update place deadline tags) valid may = update_final moment w place deadline tags may.active
effect_final w moment (does.End place) valid may = begin_final moment w place may
effect_final w moment (does.Include plan) valid may =
    subst (λ (ts : List ℕ). KeepsFinal w (with_edges moment (edges_from plan.from ts) w)) (all_new w plan may)
    (inclusions_final moment w plan.from plan.targets valid may.active)
effect_final w moment (does.Results batch) valid may = moment_final moment w
effect_final w moment (does.Exonerations batch) valid may = moment_final moment w
effect_final w moment (does.Artifacts batch) valid may = moment_final moment w

pub moved_final : (s : Settings) (w : Recorded) (moment : ℤ) (after : Recorded) → HasNames s → IsTimely w.rows moment → IsMoved s w moment after
    → KeepsFinal w.rows after.rows
moved_final s w moment after names timely (inl same) = same_final w.rows after.rows (ap (λ (v : Recorded). v.rows) same)
moved_final s w moment after names timely (inr done) =
    let mid = with_effect moment done.effect w.rows in
    both_final w.rows mid after.rows (effect_final w.rows moment done.effect timely.valid (done.suits names timely))
    (settling_final moment mid after.rows done.made.rows)

moves_final : (s : Settings) (w : Recorded) (moment : ℤ) (after : Recorded) → HasNames s → IsValid w.rows → IsCallMoment moment
    → w.rows.last ≤ℤ moment → Moves s w moment after → KeepsFinal w.rows after.rows
moves_final s w moment after names valid call later h =
    both_final w.rows h.between.rows after.rows (advance_final moment w.rows h.between.rows h.due.rows)
    (moved_final s h.between moment after names (advanced_timely w.rows h.between.rows moment valid call later h.due.rows) h.moved)

leads_final : (s : Settings) (w : ServiceWorld) (e : Entry) (after : ServiceWorld) → HasNames s → Leads s w e after → IsValid w.rows
    → KeepsFinal w.rows after.rows
leads_final s w e after names leads valid =
    elim (tells_moves s w e e.told after leads.tells) [
      | inl same ↦ same_final w.rows after.rows (ap (λ (v : ServiceWorld). v.rows) same)
      | inr moves ↦ moves_final s (recorded w) e.moment (recorded after) names valid leads.moment leads.later moves
    ]

-- ---- what is held

abbrev StaysFinal : World → World → Type 0
StaysFinal w after = (place : ℕ) → IsInState Finalized w.invocations place → IsInState Finalized after.invocations place

still_final : (w after : World) → KeepsFinal w after → StaysFinal w after
still_final w after keeps place is =
    let row = row_in Finalized w.invocations place is in
    state_is Finalized after.invocations place row.0 (keeps.rows place row.0 row.1 row.2) row.2

-- each final row holds what it did
pub record Holds (w after : Recorded) : Type 0 where
  pub results : (place : ℕ) → IsInState Finalized w.rows.invocations place
      → results.places_in after.results place ≡ results.places_in w.results place
  pub exonerations : (place : ℕ) → IsInState Finalized w.rows.invocations place
      → exonerations.places_in after.exonerations place ≡ exonerations.places_in w.exonerations place
  pub artifacts : (place : ℕ) → IsInState Finalized w.rows.invocations place
      → artifacts.places_in after.artifacts place ≡ artifacts.places_in w.artifacts place

holds_same : (w after : Recorded) → after.results ≡ w.results → after.exonerations ≡ w.exonerations → after.artifacts ≡ w.artifacts → Holds w after
holds_same w after same others files = record {
  results = λ place is. ap (λ (rows : List TestResult). results.places_in rows place) same;
  exonerations = λ place is. ap (λ (rows : List TestExoneration). exonerations.places_in rows place) others;
  artifacts = λ place is. ap (λ (rows : List Artifact). artifacts.places_in rows place) files;
}

holds_both : (a b c : Recorded) → StaysFinal a.rows b.rows → Holds a b → Holds b c → Holds a c
holds_both a b c still first second = record {
  results = λ place is. second.results place (still place is) ∙ first.results place is;
  exonerations = λ place is. second.exonerations place (still place is) ∙ first.exonerations place is;
  artifacts = λ place is. second.artifacts place (still place is) ∙ first.artifacts place is;
}

-- others of which none is a holder's
module _ (places : List ℕ → ℕ → List ℕ)
    (others : (holders : List ℕ) (other holder : ℕ) → other ≢ holder → places (holders ++ other ∷ []) holder ≡ places holders holder) where
  none_more : (holders more : List ℕ) (holder : ℕ) → All (λ (x : ℕ). x ≢ holder) more → places (holders ++ more) holder ≡ places holders holder
  none_more holders [] holder none = ap (λ (hs : List ℕ). places hs holder) (append-nil holders)
  none_more holders (x ∷ more) holder none =
      let other : x ≢ holder = All-head (λ (y : ℕ). y ≢ holder) x more none in
      ap (λ (hs : List ℕ). places hs holder) (sym (append_assoc holders (x ∷ []) more))
      ∙ (none_more (holders ++ x ∷ []) more holder (All-tail (λ (y : ℕ). y ≢ holder) x more none) ∙ others holders x holder other)

-- a batch's holder is active
none_final : (w : World) (holders : List ℕ) (place : ℕ) → IsBatchFor w holders → IsInState Finalized w.invocations place
    → All (λ (x : ℕ). x ≢ place) holders
none_final w holders place may is =
    All-weaker (λ (x : ℕ). x ≡ holder_in holders) (λ (x : ℕ). x ≢ place)
    (λ x own same. apart Active Finalized w.invocations place active≢finalized
    (subst (IsInState Active w.invocations) (sym own ∙ same) may.active) is) holders may.one

results_kept : (w : World) (moment : ℤ) (effect : Effect) (rows : List TestResult) (place : ℕ) → Suits w moment effect
    → IsInState Finalized w.invocations place → results.places_in (results_after effect rows) place ≡ results.places_in rows place
results_kept w moment does.Nothing rows place may is = refl
results_kept w moment (does.Add row) rows place may is = refl
results_kept w moment (does.Update at deadline tags) rows place may is = refl
results_kept w moment (does.End at) rows place may is = refl
results_kept w moment (does.Include plan) rows place may is = refl
results_kept w moment (does.Results batch) rows place may is =
    ap (λ (hs : List ℕ). places_of hs place) (map-append (λ (r : TestResult). r.holder) rows batch)
    ∙ none_more places_of places_others (results.holders_of rows) (results.holders_of batch) place (none_final w (results.holders_of batch) place may is)
results_kept w moment (does.Exonerations batch) rows place may is = refl
results_kept w moment (does.Artifacts batch) rows place may is = refl

exonerations_kept : (w : World) (moment : ℤ) (effect : Effect) (rows : List TestExoneration) (place : ℕ) → Suits w moment effect
    → IsInState Finalized w.invocations place → exonerations.places_in (exonerations_after effect rows) place ≡ exonerations.places_in rows place
exonerations_kept w moment does.Nothing rows place may is = refl
exonerations_kept w moment (does.Add row) rows place may is = refl
exonerations_kept w moment (does.Update at deadline tags) rows place may is = refl
exonerations_kept w moment (does.End at) rows place may is = refl
exonerations_kept w moment (does.Include plan) rows place may is = refl
exonerations_kept w moment (does.Results batch) rows place may is = refl
exonerations_kept w moment (does.Exonerations batch) rows place may is =
    ap (λ (hs : List ℕ). places_of hs place) (map-append (λ (r : TestExoneration). r.holder) rows batch)
    ∙ none_more places_of places_others (exonerations.holders_of rows) (exonerations.holders_of batch) place
    (none_final w (exonerations.holders_of batch) place may is)
exonerations_kept w moment (does.Artifacts batch) rows place may is = refl

artifacts_kept : (w : World) (moment : ℤ) (effect : Effect) (rows : List Artifact) (place : ℕ) → Suits w moment effect
    → IsInState Finalized w.invocations place → artifacts.places_in (artifacts_after effect rows) place ≡ artifacts.places_in rows place
artifacts_kept w moment does.Nothing rows place may is = refl
artifacts_kept w moment (does.Add row) rows place may is = refl
artifacts_kept w moment (does.Update at deadline tags) rows place may is = refl
artifacts_kept w moment (does.End at) rows place may is = refl
artifacts_kept w moment (does.Include plan) rows place may is = refl
artifacts_kept w moment (does.Results batch) rows place may is = refl
artifacts_kept w moment (does.Exonerations batch) rows place may is = refl
artifacts_kept w moment (does.Artifacts batch) rows place may is =
    ap (λ (hs : List ℕ). files_of hs place) (map-append (λ (r : Artifact). r.holder) rows batch.rows)
    ∙ none_more files_of files_others (artifacts.holders_of rows) (artifacts.holders_of batch.rows) place
    (none_final w (artifacts.holders_of batch.rows) place may.batch is)

moved_holds : (s : Settings) (w : Recorded) (moment : ℤ) (after : Recorded) → HasNames s → IsTimely w.rows moment → IsMoved s w moment after
    → Holds w after
moved_holds s w moment after names timely (inl same) =
    holds_same w after (ap (λ (v : Recorded). v.results) same) (ap (λ (v : Recorded). v.exonerations) same) (ap (λ (v : Recorded). v.artifacts) same)
moved_holds s w moment after names timely (inr done) =
    let may = done.suits names timely in
    record {
      results = λ place is.
          ap (λ (rows : List TestResult). results.places_in rows place) done.made.results
          ∙ results_kept w.rows moment done.effect w.results place may is;
      exonerations = λ place is.
          ap (λ (rows : List TestExoneration). exonerations.places_in rows place) done.made.exonerations
          ∙ exonerations_kept w.rows moment done.effect w.exonerations place may is;
      artifacts = λ place is.
          ap (λ (rows : List Artifact). artifacts.places_in rows place) done.made.artifacts
          ∙ artifacts_kept w.rows moment done.effect w.artifacts place may is;
    }

moves_holds : (s : Settings) (w : Recorded) (moment : ℤ) (after : Recorded) → HasNames s → IsValid w.rows → IsCallMoment moment
    → w.rows.last ≤ℤ moment → Moves s w moment after → Holds w after
moves_holds s w moment after names valid call later h =
    holds_both w h.between after (still_final w.rows h.between.rows (advance_final moment w.rows h.between.rows h.due.rows))
    (holds_same w h.between h.due.results h.due.exonerations h.due.artifacts)
    (moved_holds s h.between moment after names (advanced_timely w.rows h.between.rows moment valid call later h.due.rows) h.moved)

leads_holds : (s : Settings) (w : ServiceWorld) (e : Entry) (after : ServiceWorld) → HasNames s → Leads s w e after → IsValid w.rows
    → Holds (recorded w) (recorded after)
leads_holds s w e after names leads valid =
    elim (tells_moves s w e e.told after leads.tells) [
      | inl same ↦ holds_same (recorded w) (recorded after) (ap (λ (v : ServiceWorld). v.results) same)
          (ap (λ (v : ServiceWorld). v.exonerations) same) (ap (λ (v : ServiceWorld). v.artifacts) same)
      | inr moves ↦ moves_holds s (recorded w) e.moment (recorded after) names valid leads.moment leads.later moves
    ]

-- ---- histories

abbrev Stays : ServiceWorld → ServiceWorld → Type 0
Stays w v = KeepsFinal w.rows v.rows × Holds (recorded w) (recorded v)

legal_stays : (s : Settings) (w : ServiceWorld) (h : List Entry) (v : ServiceWorld) → HasNames s → services.IsValid w → IsLegal s w h v → Stays w v
legal_stays s w [] v names valid end = (
  same_final w.rows v.rows (ap (λ (u : ServiceWorld). u.rows) end),
  holds_same (recorded w) (recorded v) (ap (λ (u : ServiceWorld). u.results) end) (ap (λ (u : ServiceWorld). u.exonerations) end)
      (ap (λ (u : ServiceWorld). u.artifacts) end),
)
legal_stays s w (e ∷ h) v names valid legal =
    let between = legal.0 in
    let first = leads_final s w e between names legal.1 valid.sound.rows in
    let rest = legal_stays s between h v names (leads_valid s w e between names legal.1 valid) legal.2 in (
      both_final w.rows between.rows v.rows first rest.0,
      holds_both (recorded w) (recorded between) (recorded v) (still_final w.rows between.rows first)
          (leads_holds s w e between names legal.1 valid.sound.rows) rest.1,
    )

pub final_stays : FinalStays
final_stays s w h v names valid legal =
    let both = legal_stays s w h v names valid legal in (both.0, record { results = both.1.results; exonerations = both.1.exonerations; artifacts = both.1.artifacts })
