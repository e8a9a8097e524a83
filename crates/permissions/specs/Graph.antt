-- A machine of the code: walks from place to place, where each place has a list of the places that
-- it leads to.
use Rattle.std.specs.Prelude.{◌≡◌, ℕ, ◌<◌, ◌==◌, Bool, true, List, [], ◌∷◌, length, map, slice_index_or}
use Rattle.std.specs.List.{list_any}
use Rattle.policy_tables.specs.declared.tables.RealmTable.{RealmTable}
use Rattle.policy_tables.specs.declared.tables.PolicyTables.{PolicyTables}
use Rattle.policy_tables.specs.Entries.{with_entry}
use Rattle.policy_checks.specs.Index.{place_of}
use Rattle.policy_checks.specs.Checks.{realm_names}

-- the place is one of these
abbrev pub has : ℕ → List ℕ → Bool
has q ps = list_any (λ p. p == q) ps

-- the places that a place leads to
abbrev pub edges : List (List ℕ) → ℕ → List ℕ
edges graph p = slice_index_or graph p []

-- each place that is led to is one of the graph
abbrev pub IsGraph : List (List ℕ) → Type 0
IsGraph graph = (p q : ℕ) → has q (edges graph p) ≡ true → q < length graph

-- a walk from p over these places, the last of which is q
abbrev pub IsWalkOn : List (List ℕ) → ℕ → List ℕ → ℕ → Type 0
IsWalkOn graph p [] q = p ≡ q
IsWalkOn graph p (x ∷ xs) q = (has x (edges graph p) ≡ true) × IsWalkOn graph x xs q

-- from p to q in one step or more
pub record ReachesOn (graph : List (List ℕ)) (p q : ℕ) : Type 0 where
  pub first : ℕ
  pub others : List ℕ
  pub walk : IsWalkOn graph p (first ∷ others) q

-- the places of those of these names that are there
abbrev pub places_in : List (List ℕ) → List (List ℕ) → List ℕ
places_in names [] = []
places_in names (x ∷ xs) = with_entry (place_of x names) (places_in names xs)

-- the realms' places, each with the places of the realms that it extends
abbrev pub graph_from : List (List ℕ) → List RealmTable → List (List ℕ)
graph_from names realms = map (λ r. places_in names r.extends) realms

unfoldable pub graph_of : PolicyTables → List (List ℕ)
graph_of t = graph_from (realm_names t) t.realms
