-- What is recorded after an effect.
use Rattle.std.specs.Prelude.{◌≡◌, ℤ, List, ◌++◌}
use Rattle.artifacts.specs.declared.artifact.Artifact.{Artifact}
use Rattle.inclusion_graph.specs.Edges.{edges_from}
use Rattle.test_results.specs.declared.exoneration.TestExoneration.{TestExoneration}
use Rattle.test_results.specs.declared.result.TestResult.{TestResult}
use Rattle.invocation_world.specs.World.{World, with_row}
use Rattle.invocation_world.specs.Settling.{Settles}
use Rattle.invocation_world.specs.Changes.{with_begun, with_edges, with_moment, with_update}
use Rattle.service_effects.specs.declared.effect.Effect.{Effect}
use Rattle.service_effects.specs.declared.effect.Effect.TheVariants as does
use Rattle.service_effects.specs.Service.{Recorded}

-- the invocations after an effect at a moment, before its rows settle
abbrev pub with_effect : ℤ → Effect → World → World
with_effect moment does.Nothing w = w
with_effect moment (does.Add row) w = with_row w row
with_effect moment (does.Update place deadline tags) w = with_update moment place deadline tags w
with_effect moment (does.End place) w = with_begun moment place w
with_effect moment (does.Include plan) w =
    with_edges moment (edges_from plan.from plan.targets) w
with_effect moment (does.Results batch) w = with_moment moment w
with_effect moment (does.Exonerations batch) w = with_moment moment w
with_effect moment (does.Artifacts batch) w = with_moment moment w

-- What an effect makes of the invocations at a moment: it is done, and what then reaches no active
-- invocation becomes final.
abbrev pub Does : ℤ → Effect → World → World → Type 0
Does moment effect w after = Settles moment (with_effect moment effect w) after

-- the test results after an effect: those that it adds stand behind the others
abbrev pub results_after : Effect → List TestResult → List TestResult
results_after (does.Results batch) rows = rows ++ batch
results_after _ rows = rows

-- the exonerations after an effect, likewise
abbrev pub exonerations_after : Effect → List TestExoneration → List TestExoneration
exonerations_after (does.Exonerations batch) rows = rows ++ batch
exonerations_after _ rows = rows

-- and the artifacts
abbrev pub artifacts_after : Effect → List Artifact → List Artifact
artifacts_after (does.Artifacts batch) rows = rows ++ batch.rows
artifacts_after _ rows = rows

-- What an effect makes of what is recorded, part by part.
pub record Makes (moment : ℤ) (effect : Effect) (w after : Recorded) : Type 0 where
  pub rows : Does moment effect w.rows after.rows
  pub results : after.results ≡ results_after effect w.results
  pub exonerations : after.exonerations ≡ exonerations_after effect w.exonerations
  pub artifacts : after.artifacts ≡ artifacts_after effect w.artifacts
