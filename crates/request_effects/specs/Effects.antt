-- What a request does to what is recorded.
use Rattle.std.specs.Prelude.{ℕ, ℤ, List, [], ◌∷◌, Option, Some, None, if◌then◌else◌, length, slice_get}
use Rattle.artifacts.specs.declared.new_artifact.NewArtifact.{NewArtifact}
use Rattle.artifacts.specs.Batches as artifacts
use Rattle.artifacts.specs.Orders.{invocation_of}
use Rattle.artifacts.specs.Requests.{digested}
use Rattle.names_realms.specs.declared.pairs.Pair.{Pair}
use Rattle.names_realms.specs.declared.states.State.{State}
use Rattle.names_realms.specs.declared.states.State.TheVariants.{Active, Finalizing, Finalized}
use Rattle.inclusion_graph.specs.Edges.{fresh, targets_of}
use Rattle.invocations.specs.declared.invocation.Invocation.{Invocation}
use Rattle.invocations.specs.Rows.{states_of}
use Rattle.test_results.specs.declared.exoneration.TestExoneration.{TestExoneration}
use Rattle.test_results.specs.declared.result.TestResult.{TestResult}
use Rattle.test_results.specs.Batches as results
use Rattle.test_results.specs.Exonerations as exonerations
use Rattle.request_rules.specs.MessageForms.declared.requests.Request.{Request}
use Rattle.request_rules.specs.MessageForms.declared.requests.Request.TheVariants as asks
use Rattle.invocation_world.specs.World.{World, new_row}
use Rattle.invocation_world.specs.Changes.{is_update}
use Rattle.request_rules.specs.Named.{place_named, places_named}
use Rattle.service_effects.specs.declared.effect.Effect.{Effect}
use Rattle.service_effects.specs.declared.effect.Effect.TheVariants as does
use Rattle.service_effects.specs.Service.{Recorded}

-- another deadline or other tags of the row at a place, where they are others
abbrev pub update_of : Option ℤ → Option (List Pair) → ℕ → Option Invocation → Effect
update_of deadline tags place None = does.Nothing
update_of deadline tags place (Some row) =
    if is_update deadline tags row then does.Update place deadline tags else does.Nothing

abbrev pub update_at : List Invocation → Option ℤ → Option (List Pair) → Option ℕ → Effect
update_at rows deadline tags None = does.Nothing
update_at rows deadline tags (Some place) = update_of deadline tags place (slice_get rows place)

-- the end of an active row
abbrev pub end_of : ℕ → Option State → Effect
end_of place None = does.Nothing
end_of place (Some Active) = does.End place
end_of place (Some Finalizing) = does.Nothing
end_of place (Some Finalized) = does.Nothing

abbrev pub end_at : List Invocation → Option ℕ → Effect
end_at rows None = does.Nothing
end_at rows (Some place) = end_of place (slice_get (states_of rows) place)

-- inclusions in the row at a place, which has some already, if there are any to add
abbrev pub include_of : ℕ → List ℕ → List ℕ → Effect
include_of from held [] = does.Nothing
include_of from held (target ∷ targets) =
    does.Include (record { from = from; held = held; targets = target ∷ targets })

-- those of the targets that the row doesn't include yet, each once, in order
abbrev pub include_from : ℕ → List ℕ → List ℕ → Effect
include_from from held targets = include_of from held (fresh held targets)

abbrev pub include_at : World → List ℕ → Option ℕ → Effect
include_at w targets None = does.Nothing
include_at w targets (Some place) = include_from place (targets_of w.inclusions place) targets

-- test results of the row at a place, as they will stand in the table
abbrev pub results_at : Option ℕ → List TestResult → Effect
results_at None rows = does.Nothing
results_at (Some holder) rows = does.Results (results.given holder rows)

-- exonerations of the row at a place, each with its place behind those that the row has
abbrev pub exonerations_at : List TestExoneration → Option ℕ → List TestExoneration → Effect
exonerations_at held None rows = does.Nothing
exonerations_at held (Some holder) rows =
    does.Exonerations
    (exonerations.given holder (length (exonerations.places_in held holder)) rows)

-- the place of the invocation in which the artifacts of a batch stand: that of the first
abbrev pub place_of_batch : List Invocation → List NewArtifact → Option ℕ
place_of_batch rows [] = None
place_of_batch rows (first ∷ others) = place_named rows (invocation_of first.name.parent)

-- artifacts of the row at a place, as they will stand in the table, and what is said of them
abbrev pub artifacts_at : Option ℕ → List NewArtifact → Effect
artifacts_at None news = does.Nothing
artifacts_at (Some holder) news = does.Artifacts (artifacts.of_holder holder (digested news))

-- What a request of a caller of this name does at this moment, a row a method. One of another
-- method only reads.
abbrev pub effect_of : Recorded → ℤ → List ℕ → Request → Effect
effect_of w moment name (asks.CreateInvocation q) =
    does.Add (new_row moment name q.id
    q.invocation.realm q.invocation.deadline q.invocation.tags)
effect_of w moment name (asks.UpdateInvocation q) =
    update_at w.rows.invocations q.deadline q.tags (place_named w.rows.invocations q.id)
effect_of w moment name (asks.FinalizeInvocation q) =
    end_at w.rows.invocations (place_named w.rows.invocations q.id)
effect_of w moment name (asks.UpdateIncludedInvocations q) =
    include_at w.rows (places_named w.rows.invocations q.add)
    (place_named w.rows.invocations q.including)
effect_of w moment name (asks.BatchCreateTestResults q) =
    results_at (place_named w.rows.invocations q.invocation) q.requests
effect_of w moment name (asks.BatchCreateTestExonerations q) =
    exonerations_at w.exonerations (place_named w.rows.invocations q.invocation) q.requests
effect_of w moment name (asks.BatchCreateArtifacts q) =
    artifacts_at (place_of_batch w.rows.invocations q.requests) q.requests
effect_of w moment name _ = does.Nothing
