-- Which bytes are a journal, with which record bodies, and what is wrong with other bytes.
use Rattle.std.specs.Prelude.{◌≡◌, ◌≢◌, ◌⊎◌, ℕ, ◌+◌, ◌^◌, ◌<◌, ◌≤◌, List, [], ◌∷◌, ◌++◌, length, slice_index, codes}
use Rattle.std.specs.List.{slice_index_or}
use Rattle.std.specs.Int.{w32, to_le_bytes}

-- A version is a digit from 1 to 9.
abbrev pub IsVersion : ℕ → Type 0
IsVersion version = (49 ≤ version) × (version ≤ 57)

-- The name and the version.
abbrev pub head_of : ℕ → List ℕ
head_of version = codes "RDBJRNL" ++ version ∷ []

-- Version 1, which is written and read. What is said of it alone has a name without `Version`.
abbrev pub first_version : ℕ
first_version = 49

abbrev pub head : List ℕ
head = head_of first_version

-- A body has from 1 to 2^23 bytes.
pub record IsBody (body : List ℕ) : Type 0 where
  pub some : 1 ≤ length body
  pub few : length body ≤ 2 ^ 23

-- The length of a body in four bytes, the lowest first, and the body.
abbrev pub framed : List ℕ → List ℕ
framed body = to_le_bytes w32 (length body) ++ body

-- Records behind open gates.
abbrev pub records : List (List ℕ) → List ℕ
records [] = []
records (body ∷ bodies) = 1 ∷ framed body ++ records bodies

abbrev pub AreBodies : List (List ℕ) → Type 0
AreBodies [] = Unit {0}
AreBodies (body ∷ bodies) = IsBody body × AreBodies bodies

-- The head, these records, and a closed gate, which is a byte other than 1. What follows it is
-- without meaning.
pub record IsJournal (version : ℕ) (bytes : List ℕ) (bodies : List (List ℕ)) : Type 0 where
  pub gate : ℕ
  pub rest : List ℕ
  pub closed : gate ≢ 1
  pub are_bodies : AreBodies bodies
  pub form : bytes ≡ head_of version ++ records bodies ++ gate ∷ rest

-- The bytes begin with a framed body and one more byte, which is the next gate.
pub record BeginsFramed (bytes : List ℕ) : Type 0 where
  pub body : List ℕ
  pub gate : ℕ
  pub rest : List ℕ
  pub is_body : IsBody body
  pub form : bytes ≡ framed body ++ gate ∷ rest

-- The head, these records, and an open gate behind which no framed body stands. The place is that
-- of the byte behind the gate, and the byte is what stands there, or 256 past the end.
pub record IsDamaged (version : ℕ) (bytes : List ℕ) (at byte : ℕ) : Type 0 where
  pub bodies : List (List ℕ)
  pub rest : List ℕ
  pub are_bodies : AreBodies bodies
  pub form : bytes ≡ head_of version ++ records bodies ++ 1 ∷ rest
  pub broken : ¬ BeginsFramed rest
  pub place : at ≡ 9 + length (records bodies)
  pub there : byte ≡ slice_index_or rest 0 256

-- The bytes of the name, which each version has, and after them some version.
pub record IsOfHead (place byte : ℕ) : Type 0 where
  pub name : place < 7 → byte ≡ slice_index head place
  pub least : place ≡ 7 → 49 ≤ byte
  pub greatest : place ≡ 7 → byte ≤ 57

-- The first byte of a head that isn't one of a journal of any version.
pub record IsForeign (bytes : List ℕ) (at : ℕ) : Type 0 where
  pub inside : at < 8
  pub before : (k : ℕ) → k < at → IsOfHead k (slice_index bytes k)
  pub first : ¬ IsOfHead at (slice_index bytes at)

-- The head of a journal of another version than this one.
pub record IsNewer (version : ℕ) (bytes : List ℕ) (found : ℕ) : Type 0 where
  pub head : (k : ℕ) → k < 8 → IsOfHead k (slice_index bytes k)
  pub digit : found ≡ slice_index bytes 7
  pub newer : found ≢ version

-- What bytes are read as.
pub data Reading : Type 0 where
  Bodies : (bodies : List (List ℕ)) → Reading
  Foreign : (at : ℕ) → Reading
  Newer : (found : ℕ) → Reading
  Broken : (at byte : ℕ) → Reading

-- At most nine bytes are no record, whatever they are: such a file is begun anew, unless it is an
-- empty journal.
abbrev pub LongReads : ℕ → List ℕ → Reading → Type 0
LongReads version bytes (Bodies bodies) = IsJournal version bytes bodies
LongReads version bytes (Foreign at) = IsForeign bytes at
LongReads version bytes (Newer found) = IsNewer version bytes found
LongReads version bytes (Broken at byte) = IsDamaged version bytes at byte

-- Of a file of this version they are read as this.
abbrev pub VersionReads : ℕ → List ℕ → Reading → Type 0
VersionReads version bytes reading =
    ((length bytes ≤ 9) × (reading ≡ Bodies []))
    ⊎ ((9 < length bytes) × LongReads version bytes reading)

abbrev pub Reads : List ℕ → Reading → Type 0
Reads = VersionReads first_version
