-- Edges between numbered nodes.
use Rattle.std.specs.Prelude.{◌≡◌, ℕ, ◌+◌, ◌-◌, ◌≤◌, Bool, List, [], ◌∷◌, ◌++◌, Option, Some, None, drop, length, map, slice_get, ◌==◌, Contains, if◌then◌else◌}
use Rattle.std.specs.List.{filter_map, list_any}
use Rattle.inclusion_graph.specs.declared.edge.Edge.{Edge}

-- A graph: how many nodes it has, its edges in order of arrival, and for how many more nodes and
-- edges there is room.
pub record GraphState : Type 0 where
  pub nodes : ℕ
  pub edges : List Edge
  pub spare_nodes : ℕ
  pub spare_edges : ℕ

-- The nodes and the edges stay, and there is room for no fewer.
pub record IsRoomier (before after : GraphState) : Type 0 where
  pub nodes : after.nodes ≡ before.nodes
  pub edges : after.edges ≡ before.edges
  pub spare_nodes : before.spare_nodes ≤ after.spare_nodes
  pub spare_edges : before.spare_edges ≤ after.spare_edges

-- There is an edge from a to b.
abbrev pub HasEdge : List Edge → ℕ → ℕ → Type 0
HasEdge edges a b = Contains edges (record { from = a; to = b })

-- where an edge leads, if it begins at this node
abbrev pub target_from : ℕ → Edge → Option ℕ
target_from node edge = if edge.from == node then Some edge.to else None

-- The targets of a node, in order of arrival.
abbrev pub targets_of : List Edge → ℕ → List ℕ
targets_of edges node = filter_map (target_from node) edges

-- where an edge begins, if it leads to this node
abbrev pub source_to : ℕ → Edge → Option ℕ
source_to node edge = if edge.to == node then Some edge.from else None

-- The sources of a node, in order of arrival: the nodes that have an edge to it.
abbrev pub sources_of : List Edge → ℕ → List ℕ
sources_of edges node = filter_map (source_to node) edges

-- Of the edges from a place on, none leads to the node; or the first that does is at that place,
-- and the others follow.
abbrev pub IsFirstTo : List Edge → ℕ → ℕ → Option ℕ → Type 0
IsFirstTo edges node start None = sources_of (drop start edges) node ≡ []
IsFirstTo edges node start (Some at) =
    (start ≤ at) × ((source : ℕ)
    × ((slice_get edges at ≡ Some (record { from = source; to = node }))
    × (sources_of (drop start edges) node ≡ source ∷ sources_of (drop (at + 1) edges) node)))

-- whether the list has the number
abbrev pub has : List ℕ → ℕ → Bool
has seen n = list_any (λ m. n == m) seen

-- The numbers that aren't seen yet, each once, in order.
abbrev pub fresh : List ℕ → List ℕ → List ℕ
fresh seen [] = []
fresh seen (n ∷ ns) = if has seen n then fresh seen ns else n ∷ fresh (seen ++ n ∷ []) ns

-- edges from a node to each of these
abbrev pub edges_from : ℕ → List ℕ → List Edge
edges_from node targets = map (λ target. record { from = node; to = target }) targets

-- The graph with a node more, and with room for one less.
abbrev pub with_node : GraphState → GraphState
with_node graph = record graph {
  nodes = graph.nodes + 1;
  spare_nodes = graph.spare_nodes - 1;
}

-- The graph with edges from a node to each of these behind the others, and with room for so many
-- less.
abbrev pub with_edges : ℕ → List ℕ → GraphState → GraphState
with_edges node targets graph = record graph {
  edges = graph.edges ++ edges_from node targets;
  spare_edges = graph.spare_edges - length targets;
}
