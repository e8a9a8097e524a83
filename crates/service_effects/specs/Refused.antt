-- Rules of what a request does, which are asked after those of what it demands.
use Rattle.std.specs.Prelude.{◌≡◌, ℕ, ◌+◌, ◌<◌, ◌≤◌, List, [], ◌++◌, Option, Some, None, codes, decimal, length, slice_get, slice_index_or}
use Rattle.artifacts.specs.declared.artifact.Artifact.{Artifact}
use Rattle.artifacts.specs.declared.faults.ArtifactFault.{ArtifactFault}
use Rattle.artifacts.specs.declared.faults.ArtifactFault.TheVariants as file
use Rattle.artifacts.specs.Artifacts as files
use Rattle.artifacts.specs.Batches as artifacts
use Rattle.artifacts.specs.Requests.{DigestedState}
use Rattle.call_forms.specs.declared.forms.Refusal.{Refusal}
use Rattle.hex.specs.Hex.{encode_lower}
use Rattle.names_realms.specs.ArtifactNames.{artifact_name}
use Rattle.names_realms.specs.ResultNames.{result_name}
use Rattle.invocations.specs.declared.invocation.Invocation.{Invocation}
use Rattle.invocations.specs.Rows.{ids_of}
use Rattle.test_results.specs.declared.exoneration.TestExoneration.{TestExoneration}
use Rattle.test_results.specs.declared.faults.BatchFault.{BatchFault}
use Rattle.test_results.specs.declared.faults.BatchFault.TheVariants.{TooMany, Repeated, Taken, Full, Memory}
use Rattle.test_results.specs.declared.result.TestResult.{TestResult}
use Rattle.test_results.specs.Batches as batches
use Rattle.test_results.specs.Exonerations as exonerations
use Rattle.test_results.specs.Results as results
use Rattle.service_effects.specs.declared.effect.Effect.{Effect}
use Rattle.service_effects.specs.declared.effect.Effect.TheVariants as does
use Rattle.service_effects.specs.Fitting.{holder_in}
use Rattle.service_effects.specs.Service.{Recorded}

abbrev pub refusal : ℕ → List ℕ → Refusal
refusal number subject = record { rule = number; subject = subject }

-- Rule 15: a batch has at most 500 rows.
abbrev pub too_many : ℕ → Refusal
too_many count = refusal 15 (decimal count)

-- Rule 16: no two rows of it, counted from 0, have the same name.
abbrev pub repeated : ℕ → ℕ → Refusal
repeated first second = refusal 16 (decimal first ++ (codes " " ++ decimal second))

-- Rules 17 and 18: what is said of the size and of the hash of one of its artifacts is right.
abbrev pub size_wrong : ℕ → ℕ → ℕ → Refusal
size_wrong at said found =
    refusal 17 (decimal at ++ (codes " " ++ (decimal said ++ (codes " " ++ decimal found))))

abbrev pub hash_text : List ℕ → List ℕ
hash_text hash = codes "sha256:" ++ encode_lower hash

abbrev pub hash_wrong : ℕ → List ℕ → List ℕ → Refusal
hash_wrong at said found =
    refusal 18 (decimal at ++ (codes " " ++ (hash_text said ++ (codes " " ++ hash_text found))))

-- Rule 19: no result and no artifact has the name of one of its rows.
abbrev pub taken : List ℕ → Refusal
taken name = refusal 19 name

-- Rule 20: there is place in the table, which has so many rows.
abbrev pub table_full : List ℕ → ℕ → Refusal
table_full table count = refusal 20 (table ++ (codes " " ++ decimal count))

-- the name of a result by its holder's place
abbrev pub name_by : List Invocation → Option TestResult → List ℕ
name_by rows None = []
name_by rows (Some row) = result_name (record {
  invocation = slice_index_or (ids_of rows) row.holder [];
  test = row.test;
  result = row.result;
})

-- A batch of results has this fault, and is refused for it.
abbrev pub IsResultsRefusal : List Invocation → List TestResult → BatchFault → Refusal → Type 0
IsResultsRefusal rows batch (TooMany count) r = r ≡ too_many count
IsResultsRefusal rows batch (Repeated first second) r = r ≡ repeated first second
IsResultsRefusal rows batch (Taken at) r = r ≡ taken (name_by rows (slice_get batch at))
IsResultsRefusal rows batch (Full count) r = r ≡ table_full (codes "results") count
IsResultsRefusal rows batch Memory r = ⊥

-- So is one of exonerations, which have no names of their own.
abbrev pub IsExonerationsRefusal : BatchFault → Refusal → Type 0
IsExonerationsRefusal (TooMany count) r = r ≡ too_many count
IsExonerationsRefusal (Repeated first second) r = ⊥
IsExonerationsRefusal (Taken at) r = ⊥
IsExonerationsRefusal (Full count) r = r ≡ table_full (codes "exonerations") count
IsExonerationsRefusal Memory r = ⊥

-- the name of an artifact
abbrev pub file_name : Option Artifact → List ℕ
file_name None = []
file_name (Some row) = artifact_name row.name

-- And one of artifacts.
abbrev pub IsArtifactsRefusal : DigestedState → ArtifactFault → Refusal → Type 0
IsArtifactsRefusal batch (file.TooMany count) r = r ≡ too_many count
IsArtifactsRefusal batch (file.Repeated first second) r = r ≡ repeated first second
IsArtifactsRefusal batch (file.SizeWrong at said found) r = r ≡ size_wrong at said found
IsArtifactsRefusal batch (file.HashWrong at said found) r = r ≡ hash_wrong at said found
IsArtifactsRefusal batch (file.Taken at) r = r ≡ taken (file_name (slice_get batch.rows at))
IsArtifactsRefusal batch (file.Full count) r = r ≡ table_full (codes "artifacts") count
IsArtifactsRefusal batch file.Memory r = ⊥

-- The first fault of a batch, in the table as it stands, is the one that it is refused for.
pub record AreResultsRefused (w : Recorded) (batch : List TestResult) (r : Refusal) : Type 0 where
  pub fault : BatchFault
  pub has : batches.IsBatchFault w.results (holder_in (results.holders_of batch)) batch fault
  pub refusal_is : IsResultsRefusal w.rows.invocations batch fault r

pub record AreExonerationsRefused (w : Recorded) (batch : List TestExoneration) (r : Refusal)
    : Type 0 where
  pub fault : BatchFault
  pub has : exonerations.IsBatchFault w.exonerations (holder_in (exonerations.holders_of batch))
      (length batch) fault
  pub refusal_is : IsExonerationsRefusal fault r

pub record AreArtifactsRefused (w : Recorded) (batch : DigestedState) (r : Refusal) : Type 0 where
  pub fault : ArtifactFault
  pub has : artifacts.IsBatchFault w.artifacts (holder_in (files.holders_of batch.rows)) batch fault
  pub refusal_is : IsArtifactsRefusal batch fault r

-- An effect is refused, by the first rule that it breaks. There are at most 65,536 invocations, and
-- at most 262,144 inclusions, with the new ones; and a batch can come into its table.
abbrev pub EffectRefused : Recorded → Effect → Refusal → Type 0
EffectRefused w does.Nothing r = ⊥
EffectRefused w (does.Add row) r =
    (65_536 ≤ length w.rows.invocations)
    × (r ≡ table_full (codes "invocations") (length w.rows.invocations))
EffectRefused w (does.Update place deadline tags) r = ⊥
EffectRefused w (does.End place) r = ⊥
EffectRefused w (does.Include plan) r =
    (262_144 < length w.rows.inclusions + length plan.targets)
    × (r ≡ table_full (codes "inclusions") (length w.rows.inclusions))
EffectRefused w (does.Results batch) r = AreResultsRefused w batch r
EffectRefused w (does.Exonerations batch) r = AreExonerationsRefused w batch r
EffectRefused w (does.Artifacts batch) r = AreArtifactsRefused w batch r

-- It is not refused.
abbrev pub IsUnrefused : Recorded → Effect → Type 0
IsUnrefused w effect = (r : Refusal) → ¬ EffectRefused w effect r
