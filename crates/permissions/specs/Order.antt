-- A machine of the code: an order in which each place stands behind those that it leads to.
use Rattle.std.specs.Prelude.{◌≡◌, ℕ, ◌<◌, true, List, [], ◌∷◌, ◌++◌, length}
use Rattle.permissions.specs.Graph.{has, edges}

-- behind the places before it, each place stands behind those that it leads to
abbrev pub IsLaid : List (List ℕ) → List ℕ → List ℕ → Type 0
IsLaid graph before [] = Unit {0}
IsLaid graph before (p ∷ ps) =
    ((q : ℕ) → has q (edges graph p) ≡ true → has q before ≡ true)
    × IsLaid graph (before ++ p ∷ []) ps

-- all places, each behind those that it leads to
pub record IsOrder (graph : List (List ℕ)) (order : List ℕ) : Type 0 where
  pub laid : IsLaid graph [] order
  pub all : (p : ℕ) → p < length graph → has p order ≡ true
  pub within : (p : ℕ) → has p order ≡ true → p < length graph
