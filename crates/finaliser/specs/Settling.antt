-- When what is finalizing becomes final.
use Rattle.std.specs.Prelude.{◌≡◌, ℕ, ◌-◌, ◌≤◌, ◌↔◌, List, [], ◌∷◌, ◌++◌, Some, Contains, length, slice_get}
use Rattle.std.specs.List.Sorted.{IsStrictlyIncreasing}
use Rattle.names_realms.specs.declared.states.State.{State}
use Rattle.names_realms.specs.declared.states.State.TheVariants.{Active, Finalizing, Finalized}
use Rattle.inclusion_graph.specs.declared.edge.Edge.{Edge}
use Rattle.inclusion_graph.specs.Edges.{GraphState}
use Rattle.inclusion_graph.specs.Edges as graphs
use Rattle.inclusion_graph.specs.Walks.{Reaches}

-- A finaliser: its graph, the state of each node, the nodes that are newly final, and for how many
-- more nodes there is room.
pub record FinaliserState : Type 0 where
  pub graph : GraphState
  pub states : List State
  pub finals : List ℕ
  pub spare : ℕ

-- Nodes, edges, states and the newly final nodes stay, and there is room for no fewer.
pub record IsRoomier (before after : FinaliserState) : Type 0 where
  pub graph : graphs.IsRoomier before.graph after.graph
  pub states : after.states ≡ before.states
  pub finals : after.finals ≡ before.finals
  pub spare : before.spare ≤ after.spare

-- So does the graph's own room.
pub record Stays (before after : FinaliserState) : Type 0 where
  pub graph : after.graph ≡ before.graph
  pub states : after.states ≡ before.states
  pub finals : after.finals ≡ before.finals
  pub spare : before.spare ≤ after.spare

-- The finaliser with an active node more, and with room for one less.
abbrev pub with_node : FinaliserState → FinaliserState
with_node state = record state {
  graph = graphs.with_node state.graph;
  states = state.states ++ Active ∷ [];
  spare = state.spare - 1;
}

-- The finaliser with edges from a node to each of these.
abbrev pub with_edges : ℕ → List ℕ → FinaliserState → FinaliserState
with_edges node targets state =
    record state { graph = graphs.with_edges node targets state.graph }

-- The node is in this state.
abbrev pub IsIn : State → List State → ℕ → Type 0
IsIn state states node = slice_get states node ≡ Some state

-- The node reaches an active one.
abbrev pub ReachesActive : List Edge → List State → ℕ → Type 0
ReachesActive edges states node = (other : ℕ) × Reaches edges node other × IsIn Active states other

-- Nothing is left to settle: every finalizing node reaches an active one, and no final one does.
pub record IsSettled (edges : List Edge) (states : List State) : Type 0 where
  pub waits : (node : ℕ) → IsIn Finalizing states node → ReachesActive edges states node
  pub done : (node : ℕ) → IsIn Finalized states node → ¬ ReachesActive edges states node

-- Every node that is finalizing and reaches no active one becomes final, all at once, and all else
-- stays. Those that become final are listed, ascending.
pub record Settles (edges : List Edge) (old new : List State) (finals : List ℕ) : Type 0 where
  pub rising : IsStrictlyIncreasing finals
  pub all : (node : ℕ)
      → Contains finals node ↔ (IsIn Finalizing old node × (¬ ReachesActive edges old node))
  pub final : (node : ℕ) → Contains finals node → IsIn Finalized new node
  pub others : (node : ℕ) → (¬ Contains finals node) → slice_get new node ≡ slice_get old node
  pub count : length new ≡ length old
