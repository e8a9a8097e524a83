-- What an effect leaves of what is sound.
use Rattle.std.proofs.Common.{◌≡◌, ◌<◌, ◌≤◌, ◌++◌, ℕ, ℤ, List, [], ◌∷◌, length, Option, Some, None, refl, sym, ap, ◌∙◌, subst, inl, inr, arith, length-append}
use Rattle.std.specs.Prelude.{All, slice_get}
use Rattle.std.proofs.lemmas.Bool.{cases_Bool, cond-false, cond-true}
use Rattle.std.proofs.lemmas.List.{length-map}
use Rattle.std.proofs.lemmas.List.Elements.{All-append, All-cons, All-head, All-nil, All-tail, All-weaker}
use Rattle.std.proofs.lemmas.Option.{slice_get_within}
use Rattle.artifacts.specs.declared.artifact.Artifact.{Artifact}
use Rattle.artifacts.specs.Artifacts as files
use Rattle.artifacts.specs.Requests.{DigestedState}
use Rattle.artifacts.proofs.TableLemmas as file_tables
use Rattle.names_realms.specs.declared.pairs.Pair.{Pair}
use Rattle.names_realms.specs.declared.states.State.TheVariants.{Active}
use Rattle.inclusion_graph.specs.declared.edge.Edge.{Edge}
use Rattle.inclusion_graph.specs.Edges.{edges_from}
use Rattle.invocations.specs.declared.invocation.Invocation.{Invocation}
use Rattle.invocations.specs.Rows.{begun, ids_of, with_changed}
use Rattle.invocations.proofs.RowLemmas.{ids_stay}
use Rattle.test_results.specs.declared.exoneration.TestExoneration.{TestExoneration}
use Rattle.test_results.specs.declared.result.TestResult.{TestResult}
use Rattle.test_results.specs.Exonerations as exonerations
use Rattle.test_results.specs.Results as results
use Rattle.test_results.proofs.ExonerationLemmas as placed
use Rattle.test_results.proofs.TableLemmas.{table_with}
use Rattle.invocation_world.specs.World.{World}
use Rattle.invocation_world.specs.Changes.{is_update, updated, with_edges, with_row_updated}
use Rattle.invocation_world.proofs.RowFacts.{row_in}
use Rattle.service_effects.specs.declared.effect.Effect.{Effect}
use Rattle.service_effects.specs.declared.effect.Effect.TheVariants as does
use Rattle.service_effects.specs.Service.{AreArtifacts, AreExonerations, AreResults, IsSound, Recorded}
use Rattle.service_effects.specs.Effects.{Does, Makes, with_effect}
use Rattle.service_effects.specs.Fitting.{AreArtifactsFor, ArePlaced, IsBatchFor, IsTimely, Suits, holder_in}
use Rattle.service_effects.specs.Refused.{IsUnrefused}
use Rattle.service_effects.specs.Laws.{EffectsKeepValid}
use Rattle.service_effects.proofs.IdFacts.{ids_settled}
use Rattle.service_effects.proofs.EffectLaws.{rows_valid}
use Rattle.service_effects.proofs.RefusedLaws.{artifacts_can, exonerations_can, results_can}

-- ---- invocations become no fewer

count_as : (old new : List Invocation) → ids_of new ≡ ids_of old → length new ≡ length old
count_as old new same =
    let lengths : length (ids_of new) ≡ length (ids_of old) = ap (λ (ids : List (List ℕ)). length ids) same in
    omega (arith, lengths, length-map new (λ (r : Invocation). r.id), length-map old (λ (r : Invocation). r.id))

changed_count : (change : Invocation → Invocation) → ((row : Invocation) → (change row).id ≡ row.id) → (rows : List Invocation) (place : ℕ)
    → length (with_changed change rows place) ≡ length rows
changed_count change same rows place = count_as rows (with_changed change rows place) (ids_stay change same rows place)

update_count : (moment : ℤ) (place : ℕ) (deadline : Option ℤ) (tags : Option (List Pair)) (w : World) (o : Option Invocation)
    → length (with_row_updated moment place deadline tags w o).invocations ≡ length w.invocations
update_count moment place deadline tags w None = refl
update_count moment place deadline tags w (Some row) =
    let moved : World = record {
      invocations = with_changed (updated deadline tags) w.invocations place;
      inclusions = w.inclusions;
      last = moment;
    } in
    elim (cases_Bool (is_update deadline tags row)) [
      | inl yes_ ↦ ap (λ (v : World). length v.invocations) (cond-true (is_update deadline tags row) moved w yes_)
          ∙ changed_count (updated deadline tags) (λ r. refl) w.invocations place
      | inr no_ ↦ ap (λ (v : World). length v.invocations) (cond-false (is_update deadline tags row) moved w no_)
    ]

edges_count : (moment : ℤ) (edges : List Edge) (w : World) → length (with_edges moment edges w).invocations ≡ length w.invocations
edges_count moment [] w = refl
edges_count moment (edge ∷ edges) w = refl

effect_count : (moment : ℤ) (effect : Effect) (w : World) → length w.invocations ≤ length (with_effect moment effect w).invocations
effect_count moment does.Nothing w = omega arith
effect_count moment (does.Add row) w = omega (arith, length-append w.invocations (row ∷ []))
effect_count moment (does.Update place deadline tags) w =
    omega (arith, update_count moment place deadline tags w (slice_get w.invocations place))
effect_count moment (does.End place) w = omega (arith, changed_count (begun moment) (λ r. refl) w.invocations place)
effect_count moment (does.Include plan) w = omega (arith, edges_count moment (edges_from plan.from plan.targets) w)
effect_count moment (does.Results batch) w = omega arith
effect_count moment (does.Exonerations batch) w = omega arith
effect_count moment (does.Artifacts batch) w = omega arith

pub rows_no_fewer : (moment : ℤ) (effect : Effect) (w after : World) → Does moment effect w after
    → length w.invocations ≤ length after.invocations
rows_no_fewer moment effect w after acts =
    let mid = with_effect moment effect w in
    omega (
      arith,
      effect_count moment effect w,
      count_as mid.invocations after.invocations (ids_settled moment mid.inclusions mid.invocations after.invocations acts.rows),
    )

-- ---- rows that stand are held

module _ {A : Type 0} (holder_of : A → ℕ) where
  pub held_later : (count more : ℕ) (rows : List A) → count ≤ more → All (λ row. holder_of row < count) rows
      → All (λ row. holder_of row < more) rows
  held_later count more rows le held =
      All-weaker (λ row. holder_of row < count) (λ row. holder_of row < more) (λ row lt. omega (arith, lt, le)) rows held

all_own : (holder : ℕ) (batch : List TestResult) → All (λ h. h ≡ holder) (results.holders_of batch) → All (λ row. row.holder ≡ holder) batch
all_own holder [] one = All-nil (λ (row : TestResult). row.holder ≡ holder)
all_own holder (row ∷ rows) one =
    All-cons (λ (r : TestResult). r.holder ≡ holder) row rows (All-head (λ h. h ≡ holder) row.holder (results.holders_of rows) one)
    (all_own holder rows (All-tail (λ h. h ≡ holder) row.holder (results.holders_of rows) one))

all_owned : (holder : ℕ) (batch : List TestExoneration) → All (λ h. h ≡ holder) (exonerations.holders_of batch)
    → All (λ row. row.holder ≡ holder) batch
all_owned holder [] one = All-nil (λ (row : TestExoneration). row.holder ≡ holder)
all_owned holder (row ∷ rows) one =
    All-cons (λ (r : TestExoneration). r.holder ≡ holder) row rows
    (All-head (λ h. h ≡ holder) row.holder (exonerations.holders_of rows) one)
    (all_owned holder rows (All-tail (λ h. h ≡ holder) row.holder (exonerations.holders_of rows) one))

batch_there : (w : World) (holders : List ℕ) → IsBatchFor w holders → holder_in holders < length w.invocations
batch_there w holders may =
    let row = row_in Active w.invocations (holder_in holders) may.active in slice_get_within w.invocations (holder_in holders) row.0 row.1

results_added : (w : Recorded) (more : ℕ) (batch after : List TestResult) → AreResults (length w.rows.invocations) w.results
    → length w.rows.invocations ≤ more → IsBatchFor w.rows (results.holders_of batch) → IsUnrefused w (does.Results batch)
    → after ≡ w.results ++ batch → AreResults more after
results_added w more batch after sound le may unbroken is =
    let holder = holder_in (results.holders_of batch) in
    let own = all_own holder batch may.one in
    let there = batch_there w.rows (results.holders_of batch) may in
    subst (AreResults more) (sym is) (record {
      table = table_with w.results batch holder own (results_can w batch unbroken) sound.table;
      held = All-append (λ (row : TestResult). row.holder < more) w.results batch
          (held_later (λ (row : TestResult). row.holder) (length w.rows.invocations) more w.results le sound.held)
          (All-weaker (λ (row : TestResult). row.holder ≡ holder) (λ (row : TestResult). row.holder < more)
          (λ row same. omega (arith, same, there, le)) batch own);
    })

exonerations_added : (w : Recorded) (more : ℕ) (batch after : List TestExoneration)
    → AreExonerations (length w.rows.invocations) w.exonerations → length w.rows.invocations ≤ more
    → IsBatchFor w.rows (exonerations.holders_of batch) → ArePlaced w.exonerations (does.Exonerations batch)
    → IsUnrefused w (does.Exonerations batch) → after ≡ w.exonerations ++ batch → AreExonerations more after
exonerations_added w more batch after sound le may at unbroken is =
    let holder = holder_in (exonerations.holders_of batch) in
    let own = all_owned holder batch may.one in
    let there = batch_there w.rows (exonerations.holders_of batch) may in
    subst (AreExonerations more) (sym is) (record {
      table = placed.table_with w.exonerations batch holder at.0 at.1 (exonerations_can w batch unbroken) sound.table;
      held = All-append (λ (row : TestExoneration). row.holder < more) w.exonerations batch
          (held_later (λ (row : TestExoneration). row.holder) (length w.rows.invocations) more w.exonerations le sound.held)
          (All-weaker (λ (row : TestExoneration). row.holder ≡ holder) (λ (row : TestExoneration). row.holder < more)
          (λ row same. omega (arith, same, there, le)) batch own);
    })

all_filed : (holder : ℕ) (batch : List Artifact) → All (λ h. h ≡ holder) (files.holders_of batch) → All (λ row. row.holder ≡ holder) batch
all_filed holder [] one = All-nil (λ (row : Artifact). row.holder ≡ holder)
all_filed holder (row ∷ rows) one =
    All-cons (λ (r : Artifact). r.holder ≡ holder) row rows (All-head (λ h. h ≡ holder) row.holder (files.holders_of rows) one)
    (all_filed holder rows (All-tail (λ h. h ≡ holder) row.holder (files.holders_of rows) one))

artifacts_added : (w : Recorded) (more : ℕ) (batch : DigestedState) (after : List Artifact)
    → AreArtifacts (length w.rows.invocations) w.artifacts → length w.rows.invocations ≤ more → AreArtifactsFor w.rows batch
    → IsUnrefused w (does.Artifacts batch) → after ≡ w.artifacts ++ batch.rows → AreArtifacts more after
artifacts_added w more batch after sound le may unbroken is =
    let holder = holder_in (files.holders_of batch.rows) in
    let own = all_filed holder batch.rows may.batch.one in
    let there = batch_there w.rows (files.holders_of batch.rows) may.batch in
    subst (AreArtifacts more) (sym is) (record {
      table = file_tables.table_with w.artifacts batch.rows holder own may.hashed (artifacts_can w batch unbroken).can sound.table;
      held = All-append (λ (row : Artifact). row.holder < more) w.artifacts batch.rows
          (held_later (λ (row : Artifact). row.holder) (length w.rows.invocations) more w.artifacts le sound.held)
          (All-weaker (λ (row : Artifact). row.holder ≡ holder) (λ (row : Artifact). row.holder < more)
          (λ row same. omega (arith, same, there, le)) batch.rows own);
    })

artifacts_later : (more count : ℕ) (rows after : List Artifact) → AreArtifacts count rows → count ≤ more → after ≡ rows → AreArtifacts more after
artifacts_later more count rows after sound le is =
    subst (AreArtifacts more) (sym is)
    (record { table = sound.table; held = held_later (λ (row : Artifact). row.holder) count more rows le sound.held })

results_later : (more count : ℕ) (rows after : List TestResult) → AreResults count rows → count ≤ more → after ≡ rows → AreResults more after
results_later more count rows after sound le is =
    subst (AreResults more) (sym is)
    (record { table = sound.table; held = held_later (λ (row : TestResult). row.holder) count more rows le sound.held })

exonerations_later : (more count : ℕ) (rows after : List TestExoneration) → AreExonerations count rows → count ≤ more → after ≡ rows
    → AreExonerations more after
exonerations_later more count rows after sound le is =
    subst (AreExonerations more) (sym is)
    (record { table = sound.table; held = held_later (λ (row : TestExoneration). row.holder) count more rows le sound.held })

-- ---- effects

-- an effect on the invocations alone
module _ (w after : Recorded) (moment : ℤ) (effect : Effect) (sound : IsSound w) (timely : IsTimely w.rows moment)
    (may : Suits w.rows moment effect) (unbroken : IsUnrefused w effect) (makes : Makes moment effect w after) where
  no_fewer : length w.rows.invocations ≤ length after.rows.invocations
  no_fewer = rows_no_fewer moment effect w.rows after.rows makes.rows

  pub results_kept : after.results ≡ w.results → AreResults (length after.rows.invocations) after.results
  results_kept is = results_later (length after.rows.invocations) (length w.rows.invocations) w.results after.results sound.results no_fewer is

  pub exonerations_kept : after.exonerations ≡ w.exonerations → AreExonerations (length after.rows.invocations) after.exonerations
  exonerations_kept is =
      exonerations_later (length after.rows.invocations) (length w.rows.invocations) w.exonerations after.exonerations sound.exonerations no_fewer is

  pub artifacts_kept : after.artifacts ≡ w.artifacts → AreArtifacts (length after.rows.invocations) after.artifacts
  artifacts_kept is =
      artifacts_later (length after.rows.invocations) (length w.rows.invocations) w.artifacts after.artifacts sound.artifacts no_fewer is

  pub sound_with : AreResults (length after.rows.invocations) after.results → AreExonerations (length after.rows.invocations) after.exonerations
      → AreArtifacts (length after.rows.invocations) after.artifacts → IsSound after
  sound_with results exonerations artifacts = record {
    rows = rows_valid w after.rows moment effect timely may unbroken makes.rows;
    results = results;
    exonerations = exonerations;
    artifacts = artifacts;
  }

  pub sound_so : after.results ≡ w.results → after.exonerations ≡ w.exonerations → after.artifacts ≡ w.artifacts → IsSound after
  sound_so results exonerations artifacts =
      sound_with (results_kept results) (exonerations_kept exonerations) (artifacts_kept artifacts)

pub effect_sound : EffectsKeepValid
effect_sound w after moment does.Nothing sound timely may at unbroken makes =
    sound_so w after moment does.Nothing sound timely may unbroken makes makes.results makes.exonerations makes.artifacts
effect_sound w after moment (does.Add row) sound timely may at unbroken makes =
    sound_so w after moment (does.Add row) sound timely may unbroken makes makes.results makes.exonerations makes.artifacts
effect_sound w after moment (does.Update place deadline tags) sound timely may at unbroken makes =
    sound_so w after moment (does.Update place deadline tags) sound timely may unbroken makes makes.results makes.exonerations makes.artifacts
effect_sound w after moment (does.End place) sound timely may at unbroken makes =
    sound_so w after moment (does.End place) sound timely may unbroken makes makes.results makes.exonerations makes.artifacts
effect_sound w after moment (does.Include plan) sound timely may at unbroken makes =
    sound_so w after moment (does.Include plan) sound timely may unbroken makes makes.results makes.exonerations makes.artifacts
effect_sound w after moment (does.Results batch) sound timely may at unbroken makes =
    let effect : Effect = does.Results batch in
    sound_with w after moment effect sound timely may unbroken makes
    (results_added w (length after.rows.invocations) batch after.results sound.results
    (no_fewer w after moment effect sound timely may unbroken makes) may unbroken makes.results)
    (exonerations_kept w after moment effect sound timely may unbroken makes makes.exonerations)
    (artifacts_kept w after moment effect sound timely may unbroken makes makes.artifacts)
effect_sound w after moment (does.Exonerations batch) sound timely may at unbroken makes =
    let effect : Effect = does.Exonerations batch in
    sound_with w after moment effect sound timely may unbroken makes
    (results_kept w after moment effect sound timely may unbroken makes makes.results)
    (exonerations_added w (length after.rows.invocations) batch after.exonerations sound.exonerations
    (no_fewer w after moment effect sound timely may unbroken makes) may at unbroken makes.exonerations)
    (artifacts_kept w after moment effect sound timely may unbroken makes makes.artifacts)
effect_sound w after moment (does.Artifacts batch) sound timely may at unbroken makes =
    let effect : Effect = does.Artifacts batch in
    sound_with w after moment effect sound timely may unbroken makes
    (results_kept w after moment effect sound timely may unbroken makes makes.results)
    (exonerations_kept w after moment effect sound timely may unbroken makes makes.exonerations)
    (artifacts_added w (length after.rows.invocations) batch after.artifacts sound.artifacts
    (no_fewer w after moment effect sound timely may unbroken makes) may unbroken makes.artifacts)
