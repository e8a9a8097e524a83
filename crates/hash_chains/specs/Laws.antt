-- Laws of walks.
use Rattle.std.specs.Prelude.{◌≡◌, ◌↔◌, ℕ, List, [], ◌∷◌, Some, None, length, slice_get, Contains}
use Rattle.hash_chains.specs.Chains.{IsLast}

-- A walk through the places with a hash: from an end to the last one before it, from there to the
-- last one before that, and so on until there is none.
abbrev pub IsWalk : List ℕ → ℕ → ℕ → List ℕ → Type 0
IsWalk hashes end hash [] = IsLast hashes end hash None
IsWalk hashes end hash (place ∷ places) =
    IsLast hashes end hash (Some place) × IsWalk hashes place hash places

-- A walk from the latest place meets every place with the hash, and no other.
abbrev pub WalkMeetsEach : Type 0
WalkMeetsEach =
    (hashes : List ℕ) (hash : ℕ) (places : List ℕ) → IsWalk hashes (length hashes) hash places
    → (place : ℕ) → Contains places place ↔ (slice_get hashes place ≡ Some hash)
