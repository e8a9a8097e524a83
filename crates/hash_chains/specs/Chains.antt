-- Places that are found by a hash.
use Rattle.std.specs.Prelude.{◌≡◌, ◌≢◌, ◌<◌, ◌==◌, ℕ, zero, suc, Bool, true, false, if◌then◌else◌, List, [], ◌∷◌, ◌++◌, Option, Some, None, length, slice_get, slice_index_or}

-- Chains: the hash of each place in order, and for how many more places there is room.
pub record ChainsState : Type 0 where
  pub hashes : List ℕ
  pub room : ℕ

-- The last place before this end at which the hash stands; none where it stands at none.
abbrev pub IsLast : List ℕ → ℕ → ℕ → Option ℕ → Type 0
IsLast hashes end hash None = (place : ℕ) → place < end → slice_get hashes place ≢ Some hash
IsLast hashes end hash (Some last) =
    (last < end) × (slice_get hashes last ≡ Some hash)
    × ((place : ℕ) → last < place → place < end → slice_get hashes place ≢ Some hash)

-- Each hash leads to its last place, and each place to the last one before it with the same hash.
pub record IsChained (hashes : List ℕ) (latest : ℕ → Option ℕ) (earlier : List (Option ℕ))
    : Type 0 where
  pub lasts : (hash : ℕ) → IsLast hashes (length hashes) hash (latest hash)
  pub links : (place hash : ℕ) (before : Option ℕ)
      → slice_get hashes place ≡ Some hash
      → slice_get earlier place ≡ Some before
      → IsLast hashes place hash before
  pub count : length earlier ≡ length hashes

-- The last place before this one in its chain.
abbrev pub before_in : List (Option ℕ) → ℕ → Option ℕ
before_in earlier place = slice_index_or earlier place None

-- Whether so many steps from here lead to a place.
abbrev pub leads_to : List (Option ℕ) → ℕ → Option ℕ → ℕ → Bool
leads_to earlier steps None place = false
leads_to earlier zero (Some here) place = false
leads_to earlier (suc steps) (Some here) place =
    if here == place then true else leads_to earlier steps (before_in earlier here) place

-- The first of these hashes whose chain has the place.
abbrev pub hash_among : (ℕ → Option ℕ) → List (Option ℕ) → List ℕ → ℕ → ℕ
hash_among latest earlier [] place = 0
hash_among latest earlier (hash ∷ hashes) place =
    if leads_to earlier (length earlier) (latest hash) place then hash
    else hash_among latest earlier hashes place

abbrev pub hashes_below : (ℕ → Option ℕ) → List (Option ℕ) → List ℕ → ℕ → List ℕ
hashes_below latest earlier hashes zero = []
hashes_below latest earlier hashes (suc place) =
    hashes_below latest earlier hashes place ++ hash_among latest earlier hashes place ∷ []

-- The hash of each place, which is one of these.
unfoldable pub hashes_in : (ℕ → Option ℕ) → List (Option ℕ) → List ℕ → List ℕ
hashes_in latest earlier hashes = hashes_below latest earlier hashes (length earlier)
