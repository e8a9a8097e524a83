-- Walks along edges, and what is reached by them.
use Rattle.std.specs.Prelude.{◌≡◌, ℕ, List, [], ◌∷◌, Option, Some, None, Contains}
use Rattle.inclusion_graph.specs.declared.edge.Edge.{Edge}
use Rattle.inclusion_graph.specs.Edges.{HasEdge}

-- A walk is a list of nodes that isn't empty, of which each two neighbours are an edge.
abbrev pub IsWalk : List Edge → List ℕ → Type 0
IsWalk edges [] = ⊥
IsWalk edges (a ∷ []) = Unit {0}
IsWalk edges (a ∷ (b ∷ rest)) = HasEdge edges a b × IsWalk edges (b ∷ rest)

abbrev pub first_of : List ℕ → Option ℕ
first_of [] = None
first_of (a ∷ rest) = Some a

abbrev pub last_of : List ℕ → Option ℕ
last_of [] = None
last_of (a ∷ []) = Some a
last_of (a ∷ (b ∷ rest)) = last_of (b ∷ rest)

-- The walk begins with a and ends with b.
pub record Leads (edges : List Edge) (walk : List ℕ) (a b : ℕ) : Type 0 where
  pub is_walk : IsWalk edges walk
  pub begins : first_of walk ≡ Some a
  pub ends : last_of walk ≡ Some b

-- A node reaches another where a walk leads there.
abbrev pub Reaches : List Edge → ℕ → ℕ → Type 0
Reaches edges a b = (walk : List ℕ) × Leads edges walk a b

-- The node is reached from one of these.
abbrev pub IsReached : List Edge → List ℕ → ℕ → Type 0
IsReached edges roots node = (root : ℕ) × Contains roots root × Reaches edges root node
