-- The invocation that has an id, and the result and the artifact that have a name.
use Rattle.std.specs.Prelude.{ℕ, Bool, false, ◌&&◌, ◌==◌, List, [], ◌∷◌, Option, Some, None, map, position, slice_get}
use Rattle.std.specs.List.{filter_map}
use Rattle.std.specs.Str.{bytes_eq}
use Rattle.policy_checks.specs.Index.{place_of}
use Rattle.invocations.specs.declared.invocation.Invocation.{Invocation}
use Rattle.invocations.specs.Rows.{ids_of}
use Rattle.names_realms.specs.declared.result_names.ResultName.{ResultName}
use Rattle.test_results.specs.declared.result.TestResult.{TestResult}
use Rattle.test_results.specs.Results as results
use Rattle.names_realms.specs.declared.artifact_names.ArtifactName.{ArtifactName}
use Rattle.names_realms.specs.declared.parents.Parent.{Parent}
use Rattle.names_realms.specs.declared.parents.Parent.TheVariants.{Invocation as OfInvocation, Result as OfResult}
use Rattle.artifacts.specs.declared.artifact.Artifact.{Artifact}
use Rattle.artifacts.specs.Artifacts as artifacts
use Rattle.artifacts.specs.Orders.{invocation_of}

-- the place of the first row with this id, counted from 0
abbrev pub place_named : List Invocation → List ℕ → Option ℕ
place_named rows id = place_of id (ids_of rows)

abbrev pub row_at : List Invocation → Option ℕ → Option Invocation
row_at rows None = None
row_at rows (Some place) = slice_get rows place

-- the row with this id
abbrev pub named : List Invocation → List ℕ → Option Invocation
named rows id = row_at rows (place_named rows id)

-- where each of these ids stands, if rows have it
abbrev pub places_in : List Invocation → List (List ℕ) → List (Option ℕ)
places_in rows ids = map (place_named rows) ids

-- the first of some places, if there is one
abbrev pub first_place : List (Option ℕ) → Option ℕ
first_place [] = None
first_place (place ∷ places) = place

-- those of the places that are there
abbrev pub all_found : List (Option ℕ) → List ℕ
all_found places = filter_map (λ place. place) places

-- the places of those of the ids that rows have
abbrev pub places_named : List Invocation → List (List ℕ) → List ℕ
places_named rows ids = filter_map (place_named rows) ids

-- whether a row has a key
abbrev pub has_key : results.Key → TestResult → Bool
has_key key row =
    (row.holder == key.holder) && (bytes_eq row.test key.test && bytes_eq row.result key.id)

-- the place of the first row with this key, counted from 0
abbrev pub place_with : List TestResult → results.Key → Option ℕ
place_with held key = position (has_key key) held

-- the place of the result of this name, where this is the place of the invocation that it names
abbrev pub place_held : List TestResult → ResultName → Option ℕ → Option ℕ
place_held held name None = None
place_held held name (Some holder) = place_with held (results.named holder name.test name.result)

-- the place of the result of this name
abbrev pub place_of_result : List Invocation → List TestResult → ResultName → Option ℕ
place_of_result rows held name = place_held held name (place_named rows name.invocation)

-- whether two parents are the same
abbrev pub is_same_parent : Parent → Parent → Bool
is_same_parent (OfInvocation a) (OfInvocation b) = bytes_eq a b
is_same_parent (OfInvocation a) (OfResult b) = false
is_same_parent (OfResult a) (OfInvocation b) = false
is_same_parent (OfResult a) (OfResult b) =
    bytes_eq a.invocation b.invocation && (bytes_eq a.test b.test && bytes_eq a.result b.result)

-- whether an artifact has a key
abbrev pub is_keyed : artifacts.Key → Artifact → Bool
is_keyed key row =
    (row.holder == key.holder)
    && (is_same_parent row.name.parent key.name.parent
    && bytes_eq row.name.artifact key.name.artifact)

-- the place of the first artifact with this key, counted from 0
abbrev pub place_keyed : List Artifact → artifacts.Key → Option ℕ
place_keyed held key = position (is_keyed key) held

-- the place of the artifact of this name, where this is the place of the invocation that holds it
abbrev pub artifact_held : List Artifact → ArtifactName → Option ℕ → Option ℕ
artifact_held held name None = None
artifact_held held name (Some holder) = place_keyed held (artifacts.named holder name)

-- the place of the artifact of this name
abbrev pub place_of_artifact : List Invocation → List Artifact → ArtifactName → Option ℕ
place_of_artifact rows held name =
    artifact_held held name (place_named rows (invocation_of name.parent))
