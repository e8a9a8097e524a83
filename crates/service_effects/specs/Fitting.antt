-- When an effect can be done.
use Rattle.std.specs.Prelude.{⊤, ◌≡◌, ◌≢◌, ℕ, ℤ, ◌+◌, ◌<◌, ◌≤◌, ◌<ℤ◌, ◌≤ℤ◌, true, List, [], ◌∷◌, All, Option, Some, length, slice_get}
use Rattle.std.specs.Option.{ForSome}
use Rattle.artifacts.specs.Artifacts as files
use Rattle.artifacts.specs.Batches as artifacts
use Rattle.artifacts.specs.Requests.{DigestedState, IsSaidRight}
use Rattle.names_realms.specs.declared.pairs.Pair.{Pair}
use Rattle.names_realms.specs.declared.states.State.TheVariants.{Active}
use Rattle.inclusion_graph.specs.Edges.{fresh, targets_of}
use Rattle.inclusion_graph.specs.Plans.{PlanState}
use Rattle.invocations.specs.declared.invocation.Invocation.{Invocation}
use Rattle.invocations.specs.Rows.{HasId, IsInState}
use Rattle.test_results.specs.declared.exoneration.TestExoneration.{TestExoneration}
use Rattle.test_results.specs.Batches as batches
use Rattle.test_results.specs.Exonerations as exonerations
use Rattle.test_results.specs.Results as results
use Rattle.invocation_world.specs.World.{World, IsCallMoment, IsPair, IsRow, IsValid, latest_deadline}
use Rattle.invocation_world.specs.Advancing.{IsQuiet}
use Rattle.invocation_world.specs.Changes.{is_update}
use Rattle.service_effects.specs.declared.effect.Effect.{Effect}
use Rattle.service_effects.specs.declared.effect.Effect.TheVariants as does
use Rattle.service_effects.specs.declared.tables.Tables.{Tables}

-- Nothing is due in a valid world at the moment of a call that isn't before its last change.
pub record IsTimely (w : World) (moment : ℤ) : Type 0 where
  pub valid : IsValid w
  pub call : IsCallMoment moment
  pub later : w.last ≤ℤ moment
  pub quiet : IsQuiet w moment

-- The row is a new one: it is active, made at this moment, and no row has its id.
pub record IsNew (w : World) (moment : ℤ) (row : Invocation) : Type 0 where
  pub free : ¬ HasId w.invocations row.id
  pub is_row : IsRow moment row
  pub active : row.state ≡ Active
  pub made : row.created ≡ moment

-- The row at the place is active, and gets another deadline, still to come, or other tags.
pub record IsUpdatable (w : World) (moment : ℤ) (place : ℕ) (deadline : Option ℤ)
    (tags : Option (List Pair)) : Type 0 where
  pub row : Invocation
  pub stands : slice_get w.invocations place ≡ Some row
  pub other : is_update deadline tags row ≡ true
  pub active : IsInState Active w.invocations place
  pub ahead : ForSome deadline (λ given. (moment <ℤ given) × (given ≤ℤ latest_deadline))
  pub pairs : ForSome tags (All IsPair)

-- The plan's row is active, and its targets are other rows, at least one, which it doesn't include
-- yet, each once.
pub record IsIncludable (w : World) (plan : PlanState) : Type 0 where
  pub active : IsInState Active w.invocations plan.from
  pub held : plan.held ≡ targets_of w.inclusions plan.from
  pub new : fresh plan.held plan.targets ≡ plan.targets
  pub some : plan.targets ≢ []
  pub there : All (λ target. target < length w.invocations) plan.targets
  pub elsewhere : All (λ target. target ≢ plan.from) plan.targets

-- the one holder of the rows of a batch: that of the first one
abbrev pub holder_in : List ℕ → ℕ
holder_in [] = 0
holder_in (holder ∷ holders) = holder

-- A batch has a row, and all its rows are of one holder, which is active.
pub record IsBatchFor (w : World) (holders : List ℕ) : Type 0 where
  pub some : holders ≢ []
  pub one : All (λ holder. holder ≡ holder_in holders) holders
  pub active : IsInState Active w.invocations (holder_in holders)

-- So has one of artifacts, each of which has the hash of its contents.
pub record AreArtifactsFor (w : World) (given : DigestedState) : Type 0 where
  pub batch : IsBatchFor w (files.holders_of given.rows)
  pub hashed : All files.HasItsHash given.rows

-- The effect is one that a valid world can have at this moment, if no table is full.
abbrev pub Suits : World → ℤ → Effect → Type 0
Suits w moment does.Nothing = ⊤
Suits w moment (does.Add row) = IsNew w moment row
Suits w moment (does.Update place deadline tags) = IsUpdatable w moment place deadline tags
Suits w moment (does.End place) = IsInState Active w.invocations place
Suits w moment (does.Include plan) = IsIncludable w plan
Suits w moment (does.Results batch) = IsBatchFor w (results.holders_of batch)
Suits w moment (does.Exonerations batch) = IsBatchFor w (exonerations.holders_of batch)
Suits w moment (does.Artifacts batch) = AreArtifactsFor w batch

-- Exonerations have their places behind those of their holder.
abbrev pub ArePlaced : List TestExoneration → Effect → Type 0
ArePlaced rows (does.Exonerations batch) =
    (asked : List TestExoneration) × (batch ≡ exonerations.given
    (holder_in (exonerations.holders_of batch))
    (length (exonerations.places_in rows (holder_in (exonerations.holders_of batch)))) asked)
ArePlaced rows _ = ⊤

-- There is place in the tables for what the effect adds, and room in memory.
abbrev pub HasRoom : Tables → Effect → Type 0
HasRoom held does.Nothing = ⊤
HasRoom held (does.Add row) =
    (length held.world.world.invocations < 65_536) × (0 < held.world.room.rows)
HasRoom held (does.Update place deadline tags) = ⊤
HasRoom held (does.End place) = ⊤
HasRoom held (does.Include plan) =
    (length held.world.world.inclusions + length plan.targets ≤ 262_144)
    × (length plan.targets ≤ held.world.room.inclusions)
HasRoom held (does.Results batch) = batches.Fits held.results batch
HasRoom held (does.Exonerations batch) = exonerations.Fits held.exonerations batch
HasRoom held (does.Artifacts batch) =
    artifacts.Fits held.artifacts batch.rows × IsSaidRight batch (length batch.rows)

-- The effect can be done at this moment, without memory.
pub record Fits (held : Tables) (moment : ℤ) (effect : Effect) : Type 0 where
  pub timely : IsTimely held.world.world moment
  pub suits : Suits held.world.world moment effect
  pub room : HasRoom held effect
