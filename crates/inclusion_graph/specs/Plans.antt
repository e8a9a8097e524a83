-- Edges that are to be added.
use Rattle.std.specs.Prelude.{◌≡◌, ◌≢◌, ℕ, ◌+◌, ◌<◌, ◌≤◌, List, Some, length, take, slice_get}
use Rattle.std.specs.List.{All}
use Rattle.inclusion_graph.specs.declared.plan.EdgeFault.{EdgeFault}
use Rattle.inclusion_graph.specs.declared.plan.EdgeFault.TheVariants.{Itself, Full, Memory}
use Rattle.inclusion_graph.specs.Edges.{GraphState, fresh, targets_of}

-- A plan: a node, the targets that it has, and those that it gets.
pub record PlanState : Type 0 where
  pub from : ℕ
  pub held : List ℕ
  pub targets : List ℕ

-- The plan fits the graph: it was made for these edges, and there is room.
pub record Fits (graph : GraphState) (plan : PlanState) : Type 0 where
  pub from : plan.from < graph.nodes
  pub held : plan.held ≡ targets_of graph.edges plan.from
  pub targets : All (λ target. target < graph.nodes) plan.targets
  pub few : length graph.edges + length plan.targets ≤ 262_144
  pub room : length plan.targets ≤ graph.spare_edges

-- Those of the targets that the node hasn't yet.
abbrev pub new_targets : GraphState → ℕ → List ℕ → List ℕ
new_targets graph from targets = fresh (targets_of graph.edges from) targets

abbrev pub IsElsewhere : ℕ → List ℕ → Type 0
IsElsewhere from targets = All (λ target. target ≢ from) targets

-- The target at that place is the node itself, and none before it is; or none is, and the edges
-- would be more than 262,144, with this many there; or none is, there would be no more, and there
-- is no memory.
abbrev pub IsEdgeFault : GraphState → ℕ → List ℕ → EdgeFault → Type 0
IsEdgeFault graph from targets (Itself at) =
    (slice_get targets at ≡ Some from) × IsElsewhere from (take at targets)
IsEdgeFault graph from targets (Full count) =
    IsElsewhere from targets
    × (262_144 < length graph.edges + length (new_targets graph from targets))
    × (count ≡ length graph.edges)
IsEdgeFault graph from targets Memory =
    IsElsewhere from targets
    × (length graph.edges + length (new_targets graph from targets) ≤ 262_144)
