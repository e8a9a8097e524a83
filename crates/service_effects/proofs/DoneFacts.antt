-- What is done.
use Rattle.std.proofs.Common.{◌≡◌, ◌++◌, ℕ, ℤ, List, Option, refl, sym, ap, ◌∙◌, subst}
use Rattle.artifacts.specs.Artifacts.{ArtifactsState}
use Rattle.artifacts.specs.Requests.{DigestedState}
use Rattle.names_realms.specs.declared.pairs.Pair.{Pair}
use Rattle.inclusion_graph.specs.Edges.{edges_from}
use Rattle.inclusion_graph.specs.Plans.{PlanState}
use Rattle.invocations.specs.declared.invocation.Invocation.{Invocation}
use Rattle.test_results.specs.declared.exoneration.TestExoneration.{TestExoneration}
use Rattle.test_results.specs.declared.result.TestResult.{TestResult}
use Rattle.test_results.specs.Exonerations.{ExonerationsState}
use Rattle.test_results.specs.Results.{ResultsState}
use Rattle.invocation_world.specs.World.{World, IsValid, with_row}
use Rattle.invocation_world.specs.Settling.{Settles}
use Rattle.invocation_world.specs.Changes.{with_begun, with_edges, with_moment, with_update}
use Rattle.invocation_world.proofs.ValidFacts.{valid_settles}
use Rattle.service_effects.specs.declared.effect.Effect.{Effect}
use Rattle.service_effects.specs.declared.effect.Effect.TheVariants as does
use Rattle.service_effects.specs.declared.tables.Tables.{Tables}
use Rattle.service_effects.specs.States.{recorded_in}
use Rattle.service_effects.specs.Effects.{Does, Makes, artifacts_after, exonerations_after, results_after, with_effect}
use Rattle.service_effects.specs.Fitting.{Fits}
use Rattle.service_effects.proofs.EffectLaws.{added_valid, included_valid, noted_valid, updated_valid}

-- ---- what is done leaves a valid world, which is settled

module _ (held : Tables) (moment : ℤ) (effect : Effect) (after : Tables) (fits : Fits held moment effect) where
  settled_as : (shape : Effect) → IsValid (with_effect moment shape held.world.world)
      → after.world.world ≡ with_effect moment shape held.world.world → Does moment shape held.world.world after.world.world
  settled_as shape valid after_is =
      let to : World = with_effect moment shape held.world.world in
      subst (λ (v : World). Settles moment to v) (sym after_is) (valid_settles moment to valid)

  made_as : (shape : Effect) → effect ≡ shape → (Fits held moment shape → Does moment shape held.world.world after.world.world)
      → after.results.rows ≡ results_after shape held.results.rows
      → after.exonerations.rows ≡ exonerations_after shape held.exonerations.rows
      → after.artifacts.rows ≡ artifacts_after shape held.artifacts.rows
      → Makes moment effect (recorded_in held) (recorded_in after)
  made_as shape is rows results exonerations artifacts =
      subst (λ (e : Effect). Makes moment e (recorded_in held) (recorded_in after)) (sym is)
      (record { rows = rows (subst (Fits held moment) is fits); results = results; exonerations = exonerations; artifacts = artifacts })

  pub done_nothing : effect ≡ does.Nothing → after ≡ held → Makes moment effect (recorded_in held) (recorded_in after)
  done_nothing is same =
      made_as does.Nothing is (λ f. settled_as does.Nothing f.timely.valid (ap (λ (t : Tables). t.world.world) same))
      (ap (λ (t : Tables). t.results.rows) same) (ap (λ (t : Tables). t.exonerations.rows) same)
      (ap (λ (t : Tables). t.artifacts.rows) same)

  module _ (results : after.results ≡ held.results) (exonerations : after.exonerations ≡ held.exonerations)
      (artifacts : after.artifacts ≡ held.artifacts) where
    row_made_as : (shape : Effect) → effect ≡ shape → (Fits held moment shape → Does moment shape held.world.world after.world.world)
        → results_after shape held.results.rows ≡ held.results.rows → exonerations_after shape held.exonerations.rows ≡ held.exonerations.rows
        → artifacts_after shape held.artifacts.rows ≡ held.artifacts.rows → Makes moment effect (recorded_in held) (recorded_in after)
    row_made_as shape is rows no_results no_exonerations no_artifacts =
        made_as shape is rows (ap (λ (t : ResultsState). t.rows) results ∙ sym no_results)
        (ap (λ (t : ExonerationsState). t.rows) exonerations ∙ sym no_exonerations)
        (ap (λ (t : ArtifactsState). t.rows) artifacts ∙ sym no_artifacts)

    pub done_add : (row : Invocation) → effect ≡ does.Add row → after.world.world ≡ with_row held.world.world row
        → Makes moment effect (recorded_in held) (recorded_in after)
    done_add row is after_is =
        row_made_as (does.Add row) is
        (λ f. settled_as (does.Add row) (added_valid held.world.world moment row f.timely f.suits f.room.0) after_is) refl refl refl

    pub done_update : (place : ℕ) (deadline : Option ℤ) (tags : Option (List Pair)) → effect ≡ does.Update place deadline tags
        → after.world.world ≡ with_update moment place deadline tags held.world.world
        → Makes moment effect (recorded_in held) (recorded_in after)
    done_update place deadline tags is after_is =
        row_made_as (does.Update place deadline tags) is
        (λ f. settled_as (does.Update place deadline tags)
        (updated_valid held.world.world moment place deadline tags f.timely f.suits) after_is) refl refl refl

    pub done_end : (place : ℕ) → effect ≡ does.End place → Settles moment (with_begun moment place held.world.world) after.world.world
        → Makes moment effect (recorded_in held) (recorded_in after)
    done_end place is settles = row_made_as (does.End place) is (λ f. settles) refl refl refl

    pub done_include : (plan : PlanState) → effect ≡ does.Include plan
        → after.world.world ≡ with_edges moment (edges_from plan.from plan.targets) held.world.world
        → Makes moment effect (recorded_in held) (recorded_in after)
    done_include plan is after_is =
        row_made_as (does.Include plan) is
        (λ f. settled_as (does.Include plan) (included_valid held.world.world moment plan f.timely f.suits f.room.0) after_is) refl refl refl

  pub done_results : (batch : List TestResult) → effect ≡ does.Results batch → after.world.world ≡ with_moment moment held.world.world
      → after.results.rows ≡ held.results.rows ++ batch → after.exonerations ≡ held.exonerations → after.artifacts ≡ held.artifacts
      → Makes moment effect (recorded_in held) (recorded_in after)
  done_results batch is after_is results exonerations artifacts =
      made_as (does.Results batch) is
      (λ f. settled_as (does.Results batch) (noted_valid held.world.world moment f.timely) after_is) results
      (ap (λ (t : ExonerationsState). t.rows) exonerations) (ap (λ (t : ArtifactsState). t.rows) artifacts)

  pub done_exonerations : (batch : List TestExoneration) → effect ≡ does.Exonerations batch
      → after.world.world ≡ with_moment moment held.world.world → after.results ≡ held.results
      → after.exonerations.rows ≡ held.exonerations.rows ++ batch → after.artifacts ≡ held.artifacts
      → Makes moment effect (recorded_in held) (recorded_in after)
  done_exonerations batch is after_is results exonerations artifacts =
      made_as (does.Exonerations batch) is
      (λ f. settled_as (does.Exonerations batch) (noted_valid held.world.world moment f.timely) after_is)
      (ap (λ (t : ResultsState). t.rows) results) exonerations (ap (λ (t : ArtifactsState). t.rows) artifacts)

  pub done_artifacts : (batch : DigestedState) → effect ≡ does.Artifacts batch → after.world.world ≡ with_moment moment held.world.world
      → after.results ≡ held.results → after.exonerations ≡ held.exonerations → after.artifacts.rows ≡ held.artifacts.rows ++ batch.rows
      → Makes moment effect (recorded_in held) (recorded_in after)
  done_artifacts batch is after_is results exonerations artifacts =
      made_as (does.Artifacts batch) is
      (λ f. settled_as (does.Artifacts batch) (noted_valid held.world.world moment f.timely) after_is)
      (ap (λ (t : ResultsState). t.rows) results) (ap (λ (t : ExonerationsState). t.rows) exonerations) artifacts
