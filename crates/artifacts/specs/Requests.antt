-- The artifacts of a request, and what is said of their contents.
use Rattle.std.specs.Prelude.{◌≡◌, ◌≢◌, ℕ, ◌<◌, List, [], ◌∷◌, ◌++◌, Some, length, map, slice_get}
use Rattle.sha2.specs.Sha256.{sha256}
use Rattle.artifacts.specs.declared.artifact.Artifact.{Artifact}
use Rattle.artifacts.specs.declared.new_artifact.NewArtifact.{NewArtifact}
use Rattle.artifacts.specs.declared.new_artifact.Said.{Said}

-- The artifacts of a request, with their hashes, and what is said of each.
pub record DigestedState : Type 0 where
  pub rows : List Artifact
  pub said : List Said

-- An artifact of a request, of no holder yet, with the SHA-256 of its contents.
abbrev pub artifact_of : NewArtifact → Artifact
artifact_of new = record {
  holder = 0;
  name = new.name;
  content_type = new.content_type;
  contents = new.contents;
  hash = sha256 new.contents;
}

abbrev pub said_of : NewArtifact → Said
said_of new = record { size = new.said_size; hash = new.said_hash }

abbrev pub digested : List NewArtifact → DigestedState
digested news = record { rows = map artifact_of news; said = map said_of news }

-- an artifact more
abbrev pub pushed : DigestedState → NewArtifact → DigestedState
pushed asked new = record {
  rows = asked.rows ++ artifact_of new ∷ [];
  said = asked.said ++ said_of new ∷ [];
}

-- the size that is said is right, where one is
abbrev pub IsSizeRight : Artifact → Said → Type 0
IsSizeRight row said = (size : ℕ) → said.size ≡ Some size → size ≡ length row.contents

-- the hash that is said is that of the row, where one is
abbrev pub IsHashRight : Artifact → Said → Type 0
IsHashRight row said = (hash : List ℕ) → said.hash ≡ Some hash → hash ≡ row.hash

-- This size is said of the artifact at this place. It need not be right.
abbrev pub SaysSize : DigestedState → ℕ → ℕ → Type 0
SaysSize asked at size =
    (said : Said) × (slice_get asked.said at ≡ Some said) × (said.size ≡ Some size)

-- This hash is said of the artifact at this place. It need not be right.
abbrev pub SaysHash : DigestedState → ℕ → List ℕ → Type 0
SaysHash asked at hash =
    (said : Said) × (slice_get asked.said at ≡ Some said) × (said.hash ≡ Some hash)

-- The artifact at this place has so many bytes.
abbrev pub HasSize : DigestedState → ℕ → ℕ → Type 0
HasSize asked at size =
    (row : Artifact) × (slice_get asked.rows at ≡ Some row) × (size ≡ length row.contents)

-- The contents of the artifact at this place have this SHA-256.
abbrev pub HasHash : DigestedState → ℕ → List ℕ → Type 0
HasHash asked at hash =
    (row : Artifact) × (slice_get asked.rows at ≡ Some row) × (hash ≡ sha256 row.contents)

-- Of so many first artifacts each size that is said is right.
abbrev pub AreSizesRight : DigestedState → ℕ → Type 0
AreSizesRight asked count =
    (at said found : ℕ) → at < count → SaysSize asked at said → HasSize asked at found
    → said ≡ found

-- Of so many first artifacts each hash that is said is right.
abbrev pub AreHashesRight : DigestedState → ℕ → Type 0
AreHashesRight asked count =
    (at : ℕ) (said found : List ℕ) → at < count → SaysHash asked at said → HasHash asked at found
    → said ≡ found

-- Another size is said of an artifact than it has, and of none before it.
pub record IsSizeWrong (asked : DigestedState) (at said found : ℕ) : Type 0 where
  pub says : SaysSize asked at said
  pub has : HasSize asked at found
  pub other : said ≢ found
  pub right : AreSizesRight asked at

-- Another hash is said of an artifact than it has, and of none before it.
pub record IsHashWrong (asked : DigestedState) (at : ℕ) (said found : List ℕ) : Type 0 where
  pub says : SaysHash asked at said
  pub has : HasHash asked at found
  pub other : said ≢ found
  pub right : AreHashesRight asked at

-- Of so many first artifacts all that is said of sizes and hashes is right.
pub record IsSaidRight (asked : DigestedState) (count : ℕ) : Type 0 where
  pub sizes : AreSizesRight asked count
  pub hashes : AreHashesRight asked count
