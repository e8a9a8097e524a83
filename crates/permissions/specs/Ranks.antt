-- A machine of the code: the realms by their ranks. A rank is a place in an order in which each
-- realm stands behind those that it extends.
use Rattle.std.specs.Prelude.{◌≡◌, ℕ, ◌<◌, Bool, true, List, length, map, Option, Some, None, is_some, slice_index_or, count_by}
use Rattle.permissions.specs.Graph.{has, edges, IsWalkOn}

-- the place that has the rank
abbrev pub place_at : List ℕ → ℕ → ℕ
place_at places rank = slice_index_or places rank 0

-- the rank of a place
abbrev pub rank_at : List (Option ℕ) → ℕ → Option ℕ
rank_at ranks place = slice_index_or ranks place None

-- each rank leads to lesser ones
abbrev pub IsFalling : List (List ℕ) → Type 0
IsFalling rows = (rank q : ℕ) → has q (edges rows rank) ≡ true → q < rank

-- the places that have a rank, each one, and the rows that have by rank what the places lead to, by
-- rank too
pub record AreRanked (graph : List (List ℕ)) (ranks : List (Option ℕ)) (places : List ℕ)
    (rows : List (List ℕ)) : Type 0 where
  pub len : length ranks ≡ length graph
  pub count : count_by (λ r. is_some r) ranks ≡ length places
  pub right : (place rank : ℕ) → rank_at ranks place ≡ Some rank
      → (rank < length places) × (place_at places rank ≡ place)
  pub rows_count : length rows ≡ length places
  pub same : (rank : ℕ) → rank < length places
      → map (place_at places) (edges rows rank) ≡ edges graph (place_at places rank)
  pub falling : IsFalling rows

-- from this rank a walk leads to one that is bound
pub record IsBoundOn (rows : List (List ℕ)) (bound : ℕ → Bool) (start : ℕ) : Type 0 where
  pub to : ℕ
  pub path : List ℕ
  pub walk : IsWalkOn rows start path to
  pub is : bound to ≡ true

-- from one of these ranks a walk leads to one that is bound
abbrev pub IsOneBoundOn : List (List ℕ) → (ℕ → Bool) → List ℕ → Type 0
IsOneBoundOn rows bound ranks = (q : ℕ) × (has q ranks ≡ true) × IsBoundOn rows bound q
