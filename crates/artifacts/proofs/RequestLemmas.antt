-- What is said of the artifacts of a request.
use Rattle.std.proofs.Common.{◌≡◌, ◌≢◌, ◌<◌, ◌+◌, ℕ, List, [], ◌∷◌, ◌++◌, length, map, get_or, Some, refl, sym, ap, ◌∙◌, inl, inr, arith}
use Rattle.std.specs.List.{All, AllByRecursion, slice_get}
use Rattle.std.proofs.lemmas.Bool.{cases_lt}
use Rattle.std.proofs.lemmas.List.{map_push}
use Rattle.std.proofs.lemmas.List.Elements.{All-from_recursion, recursion_from_All}
use Rattle.std.proofs.lemmas.Option.{same_Some, slice_get-get_or}
use Rattle.sha2.specs.Sha256.{sha256}
use Rattle.artifacts.specs.declared.artifact.Artifact.{Artifact}
use Rattle.artifacts.specs.declared.new_artifact.NewArtifact.{NewArtifact}
use Rattle.artifacts.specs.declared.new_artifact.Said.{Said}
use Rattle.artifacts.specs.Artifacts.{HasItsHash}
use Rattle.artifacts.specs.Batches.{given}
use Rattle.artifacts.specs.Requests.{AreHashesRight, AreSizesRight, DigestedState, IsHashRight, IsHashWrong, IsSizeRight, IsSizeWrong, artifact_of, digested, pushed, said_of}

stands : {X : Type 0} (xs : List X) (at : ℕ) (x : X) → at < length xs → x ≡ get_or xs at x → slice_get xs at ≡ Some x
stands xs at x within is = slice_get-get_or xs at x within ∙ ap (λ y. Some y) (sym is)

stands_one : {X : Type 0} (xs : List X) (i at : ℕ) (x y : X) → i ≡ at → slice_get xs i ≡ Some x → slice_get xs at ≡ Some y → x ≡ y
stands_one xs i at x y same e f = same_Some x y (sym e ∙ ap (slice_get xs) same ∙ f)

pub sizes_none : (asked : DigestedState) → AreSizesRight asked 0
sizes_none asked at said found low says has = absurd (omega (arith, low))

pub hashes_none : (asked : DigestedState) → AreHashesRight asked 0
hashes_none asked at said found low says has = absurd (omega (arith, low))

pub sizes_more : (asked : DigestedState) (at : ℕ) (row : Artifact) (said : Said) → at < length asked.rows → row ≡ get_or asked.rows at row
    → at < length asked.said → said ≡ get_or asked.said at said → IsSizeRight row said → AreSizesRight asked at → AreSizesRight asked (at + 1)
sizes_more asked at row said low is low_ is_ right before i size found lt says has =
    elim (cases_lt i at) [
      | inl earlier ↦ before i size found earlier says has
      | inr ge ↦
          let same : i ≡ at = omega (arith, lt, ge) in
          let s = stands_one asked.said i at says.0 said same says.1 (stands asked.said at said low_ is_) in
          let r = stands_one asked.rows i at has.0 row same has.1 (stands asked.rows at row low is) in
          right size (ap (λ (x : Said). x.size) (sym s) ∙ says.2) ∙ ap (λ (x : Artifact). length x.contents) (sym r) ∙ sym has.2
    ]

pub hashes_more : (asked : DigestedState) (at : ℕ) (row : Artifact) (said : Said) → at < length asked.rows → row ≡ get_or asked.rows at row
    → at < length asked.said → said ≡ get_or asked.said at said → HasItsHash row → IsHashRight row said → AreHashesRight asked at
    → AreHashesRight asked (at + 1)
hashes_more asked at row said low is low_ is_ own right before i hash found lt says has =
    elim (cases_lt i at) [
      | inl earlier ↦ before i hash found earlier says has
      | inr ge ↦
          let same : i ≡ at = omega (arith, lt, ge) in
          let s = stands_one asked.said i at says.0 said same says.1 (stands asked.said at said low_ is_) in
          let r = stands_one asked.rows i at has.0 row same has.1 (stands asked.rows at row low is) in
          right hash (ap (λ (x : Said). x.hash) (sym s) ∙ says.2) ∙ own ∙ ap (λ (x : Artifact). sha256 x.contents) (sym r) ∙ sym has.2
    ]

pub size_wrong : (asked : DigestedState) (at : ℕ) (row : Artifact) (said : Said) (size : ℕ) → at < length asked.rows → row ≡ get_or asked.rows at row
    → at < length asked.said → said ≡ get_or asked.said at said → said.size ≡ Some size → size ≢ length row.contents → AreSizesRight asked at
    → IsSizeWrong asked at size (length row.contents)
size_wrong asked at row said size low is low_ is_ says other before = record {
  says = (said, stands asked.said at said low_ is_, says);
  has = (row, stands asked.rows at row low is, refl);
  other = other;
  right = before;
}

pub hash_wrong : (asked : DigestedState) (at : ℕ) (row : Artifact) (said : Said) (hash : List ℕ) → at < length asked.rows → row ≡ get_or asked.rows at row
    → at < length asked.said → said ≡ get_or asked.said at said → HasItsHash row → said.hash ≡ Some hash → hash ≢ row.hash → AreHashesRight asked at
    → IsHashWrong asked at hash row.hash
hash_wrong asked at row said hash low is low_ is_ own says other before = record {
  says = (said, stands asked.said at said low_ is_, says);
  has = (row, stands asked.rows at row low is, own);
  other = other;
  right = before;
}

-- The rows of a request, with their hashes.

given_hashed_from : (holder : ℕ) (rows : List Artifact) → AllByRecursion HasItsHash rows → AllByRecursion HasItsHash (given holder rows)
given_hashed_from holder [] h = tt
given_hashed_from holder (row ∷ rows) h = (h.0, given_hashed_from holder rows h.1)

pub given_hashed : (holder : ℕ) (rows : List Artifact) → All HasItsHash rows → All HasItsHash (given holder rows)
given_hashed holder rows h =
    All-from_recursion HasItsHash (given holder rows) (given_hashed_from holder rows (recursion_from_All HasItsHash rows h))

pub digested_more : (passed : List NewArtifact) (new : NewArtifact) → pushed (digested passed) new ≡ digested (passed ++ new ∷ [])
digested_more passed new =
    let rows = map_push artifact_of passed new in
    let said = map_push said_of passed new in
    let a : List Artifact → DigestedState = λ rs. record { rows = rs; said = map said_of passed ++ said_of new ∷ [] } in
    let b : List Said → DigestedState = λ ss. record { rows = map artifact_of (passed ++ new ∷ []); said = ss } in
    ap a (sym rows) ∙ ap b (sym said)
