-- Where the invocations and the result or the artifact stand that a request names.
use Rattle.std.specs.Prelude.{◌≡◌, ℕ, List, ◌∷◌, Option, Some, None}
use Rattle.names_realms.specs.declared.result_names.ResultName.{ResultName}
use Rattle.names_realms.specs.declared.artifact_names.ArtifactName.{ArtifactName}
use Rattle.artifacts.specs.declared.artifact.Artifact.{Artifact}
use Rattle.test_results.specs.declared.result.TestResult.{TestResult}
use Rattle.invocations.specs.declared.invocation.Invocation.{Invocation}
use Rattle.request_demands.specs.Demands.{Demand}
use Rattle.request_rules.specs.Held.{Held}
use Rattle.request_rules.specs.Named.{place_named, place_of_artifact, place_of_result, places_in}

-- The places of those that have to be there, of those to be included, of the result and of the
-- artifact that have to be there, of the one that has to be active, and of the one that has the id
-- of the new one: nothing for one that isn't there.
pub record Located : Type 0 where
  pub named : List (Option ℕ)
  pub included : List (Option ℕ)
  pub row : Option ℕ
  pub artifact : Option ℕ
  pub active : Option ℕ
  pub made : Option ℕ

-- where the invocation with this id stands, if an id is given
abbrev pub place_if : List Invocation → Option (List ℕ) → Option ℕ
place_if rows None = None
place_if rows (Some id) = place_named rows id

-- where the result of this name stands, if a name is given
abbrev pub result_if : List Invocation → List TestResult → Option ResultName → Option ℕ
result_if rows held None = None
result_if rows held (Some name) = place_of_result rows held name

-- where the artifact of this name stands, if a name is given
abbrev pub artifact_if : List Invocation → List Artifact → Option ArtifactName → Option ℕ
artifact_if rows held None = None
artifact_if rows held (Some name) = place_of_artifact rows held name

-- where the invocations and the rows stand that are demanded
abbrev pub located : List Invocation → Held → Demand → Located
located rows held d = record {
  named = places_in rows d.named;
  included = places_in rows d.included;
  row = result_if rows held.results d.row;
  artifact = artifact_if rows held.artifacts d.artifact;
  active = place_if rows d.active;
  made = place_if rows d.makes;
}

-- The one that has to be active is the first of those that have to be there, so that it is looked
-- up with them.
abbrev pub IsActiveFirst : Demand → Type 0
IsActiveFirst d =
    (id : List ℕ) → d.active ≡ Some id → (rest : List (List ℕ)) × (d.named ≡ id ∷ rest)
