-- What an effect is planned to.
use Rattle.std.specs.Prelude.{◌≡◌, ◌⊎◌, ◌<◌, ℕ, List, Option, Some, None, codes, length, slice_get}
use Rattle.artifacts.specs.declared.artifact.Artifact.{Artifact}
use Rattle.artifacts.specs.Batches as artifacts
use Rattle.call_forms.specs.declared.forms.Refusal.{Refusal}
use Rattle.test_results.specs.declared.result.TestResult.{TestResult}
use Rattle.test_results.specs.Batches.{AreFree, IsTaken}
use Rattle.service_effects.specs.declared.effect.Effect.{Effect}
use Rattle.service_effects.specs.declared.effect.Planned.{Planned}
use Rattle.service_effects.specs.declared.effect.Planned.TheVariants as planned
use Rattle.service_effects.specs.declared.faults.EffectFault.{EffectFault}
use Rattle.service_effects.specs.declared.faults.EffectFault.TheVariants.{TooMany, Repeated, SizeWrong, HashWrong, Taken, Full}
use Rattle.service_effects.specs.declared.faults.FullTable.{FullTable}
use Rattle.service_effects.specs.declared.faults.FullTable.TheVariants.{Invocations, Inclusions, Results, Exonerations, Artifacts}
use Rattle.service_effects.specs.declared.tables.Tables.{Tables}
use Rattle.service_effects.specs.Fitting.{HasRoom}
use Rattle.service_effects.specs.Refused.{EffectRefused, file_name, hash_wrong, name_by, repeated, size_wrong, table_full, taken, too_many}
use Rattle.service_effects.specs.Service.{Recorded}
use Rattle.service_effects.specs.States.{recorded_in}

abbrev pub refusal_of_full : FullTable → Refusal
refusal_of_full (Invocations count) = table_full (codes "invocations") count
refusal_of_full (Inclusions count) = table_full (codes "inclusions") count
refusal_of_full (Results count) = table_full (codes "results") count
refusal_of_full (Exonerations count) = table_full (codes "exonerations") count
refusal_of_full (Artifacts count) = table_full (codes "artifacts") count

abbrev pub refusal_of : EffectFault → Refusal
refusal_of (TooMany count) = too_many count
refusal_of (Repeated first second) = repeated first second
refusal_of (SizeWrong at said found) = size_wrong at said found
refusal_of (HashWrong at said found) = hash_wrong at said found
refusal_of (Taken name) = taken name
refusal_of (Full table) = refusal_of_full table

-- The effect is refused, or there is room for it.
abbrev pub IsRoomPlanned : Tables → Effect → Planned → Type 0
IsRoomPlanned held effect (planned.Refused fault) =
    EffectRefused (recorded_in held) effect (refusal_of fault)
IsRoomPlanned held effect (planned.Ready e) = (e ≡ effect) × HasRoom held e

-- The name is that of the first row of a batch that a result has; or no result has that of one, or
-- the batch has too many rows.
abbrev pub IsTakenName : Recorded → List TestResult → Option (List ℕ) → Type 0
IsTakenName w batch None = (500 < length batch) ⊎ AreFree w.results batch (length batch)
IsTakenName w batch (Some name) =
    (at : ℕ) × IsTaken w.results batch at × (name ≡ name_by w.rows.invocations (slice_get batch at))

-- So is that of a batch of artifacts, whose names the artifacts that stand may have.
abbrev pub IsTakenFile : Recorded → List Artifact → Option (List ℕ) → Type 0
IsTakenFile w batch None = (500 < length batch) ⊎ artifacts.AreFree w.artifacts batch (length batch)
IsTakenFile w batch (Some name) =
    (at : ℕ) × artifacts.IsTaken w.artifacts batch at × (name ≡ file_name (slice_get batch at))
