-- The code's own words for links from each edge to the next one to the same node.
use Rattle.std.specs.Prelude.{◌≡◌, ℕ, ◌+◌, ◌<◌, List, [], Option, Some, None, Contains, drop, length, slice_get}
use Rattle.std.specs.List.{All}
use Rattle.inclusion_graph.specs.declared.edge.Edge.{Edge}
use Rattle.inclusion_graph.specs.declared.edge_list.Ends.{Ends}
use Rattle.inclusion_graph.specs.Edges.{HasEdge, IsFirstTo, sources_of}

-- no edge leads to the node, or these are the places of the first and of the last one
abbrev pub HasEnds : List Edge → ℕ → Option Ends → Type 0
HasEnds edges node None = sources_of edges node ≡ []
HasEnds edges node (Some ends) =
    IsFirstTo edges node 0 (Some ends.first)
    × ((source : ℕ) × ((slice_get edges ends.last ≡ Some (record { from = source; to = node }))
    × (sources_of (drop (ends.last + 1) edges) node ≡ [])))

-- each edge is linked to the next one to the same node, and each node has the ends of its edges
pub record AreLinked (edges : List Edge) (next : List (Option ℕ))
    (ends : List (Option Ends)) : Type 0 where
  pub count : length next ≡ length edges
  pub within : All (λ edge. edge.to < length ends) edges
  pub ends_are : (node : ℕ) (is : Option Ends) → slice_get ends node ≡ Some is
      → HasEnds edges node is
  pub next_are : (place : ℕ) (edge : Edge) (is : Option ℕ) → slice_get edges place ≡ Some edge
      → slice_get next place ≡ Some is
      → IsFirstTo edges edge.to (place + 1) is

-- the ends where one more edge leads to the node
abbrev pub ends_with : Option Ends → ℕ → Ends
ends_with None place = record { first = place; last = place }
ends_with (Some ends) place = record { first = ends.first; last = place }

-- the sources of the node to before some place were gone over, and the node from wasn't among them
pub record IsSought (edges : List Edge) (from to : ℕ) (next : Option ℕ) : Type 0 where
  pub start : ℕ
  pub first : IsFirstTo edges to start next
  pub left : HasEdge edges from to → Contains (sources_of (drop start edges) to) from
