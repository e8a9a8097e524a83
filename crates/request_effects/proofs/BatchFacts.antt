-- What is shown of batches.
use Rattle.std.proofs.Common.{◌≡◌, ◌<◌, ◌≤◌, ◌+◌, ◌++◌, ℕ, zero, suc, ℤ, List, [], ◌∷◌, length, drop, take, Some, None, refl, sym, ap, ◌∙◌, subst, inl, inr, arith}
use Rattle.std.specs.Prelude.{All, slice_get}
use Rattle.std.proofs.lemmas.List.{drop-append-le, drop_at, length-drop, take-append-le, take_all}
use Rattle.std.proofs.lemmas.List.Elements.{All-head}
use Rattle.std.proofs.lemmas.Option.{none-some}
use Rattle.artifacts.specs.declared.artifact.Artifact.{Artifact}
use Rattle.artifacts.specs.Requests.{DigestedState}
use Rattle.invocations.specs.declared.invocation.Invocation.{Invocation}
use Rattle.invocations.specs.Rows.{ids_of}
use Rattle.test_results.specs.declared.exoneration.TestExoneration.{TestExoneration}
use Rattle.test_results.specs.declared.result.TestResult.{TestResult}
use Rattle.invocation_world.specs.World.{World}
use Rattle.invocation_world.specs.Changes.{with_moment}
use Rattle.invocation_world.proofs.RowFacts.{stands}
use Rattle.service_effects.proofs.IdFacts.{id_at}
use Rattle.request_rules.specs.RequestDemands.Settings.{Settings}
use Rattle.service_effects.specs.declared.effect.Effect.{Effect}
use Rattle.service_effects.specs.declared.effect.Effect.TheVariants as does
use Rattle.request_effects.specs.declared.shows.Shows.TheVariants as shows
use Rattle.service_effects.specs.Service.{Recorded}
use Rattle.service_effects.specs.Effects.{Does, Makes, artifacts_after, exonerations_after, results_after}
use Rattle.service_effects.specs.Fitting.{IsTimely}
use Rattle.request_effects.specs.Foreseen.{AreAdded}
use Rattle.request_effects.specs.Shows.{answer_of, artifacts_reply, done, exonerations_reply, exonerations_shown, part_of, results_reply, results_shown}
use Rattle.service_effects.proofs.EffectLaws.{after_is, noted_valid}

-- ---- what is shown

part_added : {A : Type 0} (rows batch after : List A) (first count : ℕ) → after ≡ rows ++ batch → AreAdded (length rows) (length batch) first count
    → part_of first count after ≡ batch
part_added rows batch after first count is at =
    ap (λ xs. take count (drop first xs)) is
    ∙ (ap (take count) (drop_at rows batch first (sym at.0)) ∙ take_all count batch (let n = at.1 in omega (arith, n)))

-- the invocations of a batch stay as they are
rows_as : (moment : ℤ) (w after : World) → IsTimely w moment → Does moment (does.Results []) w after → after.invocations ≡ w.invocations
rows_as moment w after timely acts =
    ap (λ (v : World). v.invocations) (after_is moment (with_moment moment w) after (noted_valid w moment timely) acts)

pub results_so : (s : Settings) (w after : Recorded) (moment : ℤ) (effect : Effect) (batch : List TestResult) (first count : ℕ)
    → IsTimely w.rows moment → effect ≡ does.Results batch → AreAdded (length w.results) (length batch) first count
    → Makes moment effect w after
    → done None (results_reply w.rows.invocations batch) ≡ answer_of (record { settings = s; world = after }) (shows.Results first count)
results_so s w after moment effect batch first count timely is at makes =
    let acts : Does moment (does.Results batch) w.rows after.rows = subst (λ (e : Effect). Does moment e w.rows after.rows) is makes.rows in
    let list : after.results ≡ w.results ++ batch = makes.results ∙ ap (λ (e : Effect). results_after e w.results) is in
    ap (done None)
    (ap (λ (held : List Invocation). results_reply held batch) (sym (rows_as moment w.rows after.rows timely acts))
    ∙ ap (results_reply after.rows.invocations) (sym (part_added w.results batch after.results first count list at)))

pub exonerations_so : (s : Settings) (w after : Recorded) (moment : ℤ) (effect : Effect) (batch : List TestExoneration) (first count : ℕ)
    → IsTimely w.rows moment → effect ≡ does.Exonerations batch → AreAdded (length w.exonerations) (length batch) first count
    → Makes moment effect w after
    → done None (exonerations_reply w.rows.invocations batch)
    ≡ answer_of (record { settings = s; world = after }) (shows.Exonerations first count)
exonerations_so s w after moment effect batch first count timely is at makes =
    let acts : Does moment (does.Exonerations batch) w.rows after.rows = subst (λ (e : Effect). Does moment e w.rows after.rows) is makes.rows in
    let list : after.exonerations ≡ w.exonerations ++ batch = makes.exonerations ∙ ap (λ (e : Effect). exonerations_after e w.exonerations) is in
    ap (done None)
    (ap (λ (held : List Invocation). exonerations_reply held batch) (sym (rows_as moment w.rows after.rows timely acts))
    ∙ ap (exonerations_reply after.rows.invocations) (sym (part_added w.exonerations batch after.exonerations first count list at)))

pub artifacts_so : (s : Settings) (w after : Recorded) (moment : ℤ) (effect : Effect) (batch : DigestedState) (first count : ℕ)
    → effect ≡ does.Artifacts batch → AreAdded (length w.artifacts) (length batch.rows) first count → Makes moment effect w after
    → done None (artifacts_reply batch.rows) ≡ answer_of (record { settings = s; world = after }) (shows.Artifacts first count)
artifacts_so s w after moment effect batch first count is at makes =
    let list : after.artifacts ≡ w.artifacts ++ batch.rows = makes.artifacts ∙ ap (λ (e : Effect). artifacts_after e w.artifacts) is in
    ap (λ (rows : List Artifact). done None (artifacts_reply rows)) (sym (part_added w.artifacts batch.rows after.artifacts first count list at))

-- ---- what is shown of rows stays, whatever comes later

pub part_stays : {A : Type 0} (rows more : List A) (first count : ℕ) → first + count ≤ length rows
    → part_of first count (rows ++ more) ≡ part_of first count rows
part_stays rows more first count within =
    ap (take count) (drop-append-le first rows more (omega (arith, within)))
    ∙ take-append-le count (drop first rows) more (omega (arith, within, length-drop first rows))

-- the ids of invocations that stand, stay
abbrev pub KeepIds : List Invocation → List Invocation → Type 0
KeepIds old new = (place : ℕ) (id : List ℕ) → slice_get (ids_of old) place ≡ Some id → slice_get (ids_of new) place ≡ Some id

id_there : (old new : List Invocation) (place : ℕ) → KeepIds old new → place < length old
    → slice_get (ids_of new) place ≡ slice_get (ids_of old) place
id_there old new place keep within = elim (stands old place) [
  | inl row ↦ let here = id_at old place row.0 row.1 in keep place row.0.id here ∙ sym here
  | inr none ↦ absurd (none_within old place none within)
]
  where
    none_within : (rows : List Invocation) (at : ℕ) → slice_get rows at ≡ None → at < length rows → ⊥
    none_within [] at e lt = omega (arith, lt)
    none_within (x ∷ xs) zero e lt = none-some x (sym e)
    none_within (x ∷ xs) (suc at) e lt = none_within xs at e (omega (arith, lt))

pub results_stay : (old new : List Invocation) (rows : List TestResult) → KeepIds old new → All (λ row. row.holder < length old) rows
    → results_reply new rows ≡ results_reply old rows
results_stay old new [] keep held = refl
results_stay old new (row ∷ rows) keep held =
    ap (results_shown (row ∷ rows)) (id_there old new row.holder keep (All-head (λ (r : TestResult). r.holder < length old) row rows held))

pub exonerations_stay : (old new : List Invocation) (rows : List TestExoneration) → KeepIds old new
    → All (λ row. row.holder < length old) rows
    → exonerations_reply new rows ≡ exonerations_reply old rows
exonerations_stay old new [] keep held = refl
exonerations_stay old new (row ∷ rows) keep held =
    ap (exonerations_shown (row ∷ rows))
    (id_there old new row.holder keep (All-head (λ (r : TestExoneration). r.holder < length old) row rows held))
