-- Walks through the places of keys with the same hash.
use Rattle.std.proofs.Common.{◌≡◌, ◌≢◌, ◌<◌, ◌≤◌, ℕ, zero, suc, List, [], ◌∷◌, length, get_or, map, Contains, Option, Some, None, option_map, sym, ap, ◌∙◌, inl, inr, arith}
use Rattle.std.specs.List.{slice_get}
use Rattle.std.proofs.lemmas.Bool.{cases_lt, cases_eq}
use Rattle.std.proofs.lemmas.List.{length-map}
use Rattle.std.proofs.lemmas.Option.{slice_get-get_or, slice_get-map, slice_get_within}
use Rattle.hash_chains.specs.Chains.{IsLast}
use Rattle.hash_chains.specs.Laws.{IsWalk, WalkMeetsEach}

-- the places with a key that are still to be met: none, or none behind this one, which has its hash
abbrev pub IsAhead : {K : Type 0} → (K → ℕ) → List K → K → Option ℕ → Type 0
IsAhead hash_of keys key None = ¬ Contains keys key
IsAhead hash_of keys key (Some next) =
    (slice_get (map hash_of keys) next ≡ Some (hash_of key)) × ((place : ℕ) → slice_get keys place ≡ Some key → place ≤ next)

hash_at : {K : Type 0} (hash_of : K → ℕ) (keys : List K) (place : ℕ) (key : K) → slice_get keys place ≡ Some key
    → slice_get (map hash_of keys) place ≡ Some (hash_of key)
hash_at hash_of keys place key e = slice_get-map hash_of keys place ∙ ap (option_map hash_of) e

ahead : {K : Type 0} (hash_of : K → ℕ) (keys : List K) (key : K) (end : ℕ) (found : Option ℕ)
    → IsLast (map hash_of keys) end (hash_of key) found
    → ((place : ℕ) → slice_get keys place ≡ Some key → place < end) → IsAhead hash_of keys key found
ahead {K} hash_of keys key end None h below = λ held.
    let at = slice_get-get_or keys held.0 key held.1 ∙ ap (λ (k : K). Some k) held.2 in
    h held.0 (below held.0 at) (hash_at hash_of keys held.0 key at)
ahead hash_of keys key end (Some last) h below = (
  h.1,
  λ place at. elim (cases_lt last place) [
    | inl lt ↦ absurd (h.2 place lt (below place at) (hash_at hash_of keys place key at))
    | inr ge ↦ ge
  ],
)

pub ahead_within : {K : Type 0} (hash_of : K → ℕ) (keys : List K) (key : K) (next : ℕ) → IsAhead hash_of keys key (Some next)
    → next < length keys
ahead_within hash_of keys key next h =
    let low = slice_get_within (map hash_of keys) next (hash_of key) h.0 in
    omega (arith, low, length-map keys hash_of)

pub ahead_first : {K : Type 0} (hash_of : K → ℕ) (keys : List K) (key : K) (found : Option ℕ)
    → IsLast (map hash_of keys) (length (map hash_of keys)) (hash_of key) found → IsAhead hash_of keys key found
ahead_first hash_of keys key found last =
    ahead hash_of keys key (length (map hash_of keys)) found last
    (λ place at. slice_get_within (map hash_of keys) place (hash_of key) (hash_at hash_of keys place key at))

-- where the key doesn't stand at a place, go on to the one before it
pub ahead_next : {K : Type 0} (hash_of : K → ℕ) (keys : List K) (key other : K) (next : ℕ) (before : Option ℕ)
    → IsAhead hash_of keys key (Some next) → slice_get keys next ≡ Some other → other ≢ key
    → IsLast (map hash_of keys) next (hash_of key) before → IsAhead hash_of keys key before
ahead_next {K} hash_of keys key other next before h at not last =
    ahead hash_of keys key next before last (λ place e. elim (cases_lt place next) [
      | inl lt ↦ lt
      | inr ge ↦ let is : place ≡ next = (let low = h.1 place e in omega arith) in
          let same : Some other ≡ Some key = sym at ∙ ap (λ n. slice_get keys n) (sym is) ∙ e in absurd (not cc)
    ])

-- how far the walk can go on
abbrev pub steps_left : Option ℕ → ℕ
steps_left None = 0
steps_left (Some next) = suc next

pub falls : (hashes : List ℕ) (next hash : ℕ) (before : Option ℕ) → IsLast hashes next hash before → steps_left before < suc next
falls hashes next hash None h = omega arith
falls hashes next hash (Some last) h = (let low = h.0 in omega arith)

later : (place other : ℕ) (places : List ℕ) → Contains places other → Contains (place ∷ places) other
later place other places held = (suc held.0, omega (arith, held.1), held.2)

first : (place other : ℕ) (places : List ℕ) → place ≡ other → Contains (place ∷ places) other
first place other places e = (zero, omega arith, e)

met : (hashes : List ℕ) (end hash : ℕ) (places : List ℕ) → IsWalk hashes end hash places → (place : ℕ) → place < end
    → slice_get hashes place ≡ Some hash → Contains places place
met hashes end hash [] walk place below at = absurd (walk place below at)
met hashes end hash (next ∷ places) walk place below at = elim (cases_lt next place) [
  | inl lt ↦ absurd (walk.0.2 place lt below at)
  | inr ge ↦ elim (cases_eq next place) [
    | inl same ↦ first next place places same
    | inr other ↦ later next place places (met hashes next hash places walk.1 place (omega arith) at)
  ]
]

alone_at : (hashes : List ℕ) (end hash : ℕ) (places : List ℕ) → IsWalk hashes end hash places → (place k : ℕ) → k < length places
    → get_or places k place ≡ place → slice_get hashes place ≡ Some hash
alone_at hashes end hash [] walk place k within is = absurd (omega arith)
alone_at hashes end hash (next ∷ places) walk place zero within is = ap (λ n. slice_get hashes n) (sym is) ∙ walk.0.1
alone_at hashes end hash (next ∷ places) walk place (suc k) within is =
    alone_at hashes next hash places walk.1 place k (omega arith) is

pub walk_meets_each : WalkMeetsEach
walk_meets_each hashes hash places walk place = (
  λ held. alone_at hashes (length hashes) hash places walk place held.0 held.1 held.2,
  λ at. met hashes (length hashes) hash places walk place (slice_get_within hashes place hash at) at,
)
