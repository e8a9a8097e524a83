-- Lists of artifacts.
use Rattle.std.specs.Prelude.{◌≡◌, ℕ, ◌≤◌, List, Some, length, map, slice_get, slice_index_or, Contains}
use Rattle.std.specs.List.{All}
use Rattle.sha2.specs.Sha256.{sha256}
use Rattle.names_realms.specs.declared.artifact_names.ArtifactName.{ArtifactName}
use Rattle.artifacts.specs.declared.artifact.Artifact.{Artifact}
use Rattle.artifacts.specs.Places.{places_of}

-- A table: its rows in order of arrival, and for how many more rows of each holder there is room.
pub record ArtifactsState : Type 0 where
  pub rows : List Artifact
  pub rooms : List ℕ

-- For how many more rows of this holder there is room.
abbrev pub room_for : ArtifactsState → ℕ → ℕ
room_for table holder = slice_index_or table.rooms holder 0

-- What names an artifact in a table: its holder and its name.
pub record Key : Type 0 where
  pub holder : ℕ
  pub name : ArtifactName

abbrev pub named : ℕ → ArtifactName → Key
named holder name = record { holder = holder; name = name }

abbrev pub key_of : Artifact → Key
key_of row = named row.holder row.name

abbrev pub keys_of : List Artifact → List Key
keys_of rows = map key_of rows

abbrev pub holders_of : List Artifact → List ℕ
holders_of rows = map (λ row. row.holder) rows

-- The places of the rows of a holder.
abbrev pub places_in : List Artifact → ℕ → List ℕ
places_in rows holder = places_of (holders_of rows) holder

-- Some row has this key.
abbrev pub HasKey : List Artifact → Key → Type 0
HasKey rows key = Contains (keys_of rows) key

-- The row at this place, counted from 0, has this key.
abbrev pub IsPlaceOf : List Artifact → Key → ℕ → Type 0
IsPlaceOf rows key place = slice_get (keys_of rows) place ≡ Some key

-- No key stands at two places.
abbrev pub HasUniqueKeys : List Artifact → Type 0
HasUniqueKeys rows = (key : Key) (i j : ℕ) → IsPlaceOf rows key i → IsPlaceOf rows key j → i ≡ j

-- The hash is the SHA-256 of the contents.
abbrev pub HasItsHash : Artifact → Type 0
HasItsHash row = row.hash ≡ sha256 row.contents

-- What is so of the rows of every table.
pub record IsTable (rows : List Artifact) : Type 0 where
  pub unique : HasUniqueKeys rows
  pub few : (holder : ℕ) → length (places_in rows holder) ≤ 100_000
  pub hashed : All HasItsHash rows
