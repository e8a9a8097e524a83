-- The code's own words for what a retirement can make final: nodes that are found, and those of
-- them that are held up.
use Rattle.std.specs.Prelude.{◌≡◌, ℕ, ◌+◌, ◌-◌, ◌<◌, ◌≤◌, ◌⊎◌, nat_eq, Bool, not, List, [], ◌++◌, Option, Some, None, drop, Contains, length, slice_get}
use Rattle.std.specs.List.{All, IsDistinct}
use Rattle.names_realms.specs.declared.states.State.{State}
use Rattle.names_realms.specs.declared.states.State.TheVariants.{Active, Finalizing, Finalized}
use Rattle.inclusion_graph.specs.declared.edge.Edge.{Edge}
use Rattle.inclusion_graph.specs.Edges.{GraphState, HasEdge, IsFirstTo, has, sources_of}
use Rattle.inclusion_graph.specs.Searches.{HasMarks}
use Rattle.inclusion_graph.specs.Walks.{Reaches}
use Rattle.finaliser.specs.Marks.{unfinal, unmarked}
use Rattle.finaliser.specs.Settling.{IsIn, IsSettled, ReachesActive}

-- a set of nodes, in the order in which they were added, out of those below a number, and for how
-- many more nodes there is room
pub record NodeSetState : Type 0 where
  pub nodes : List ℕ
  pub below : ℕ
  pub spare : ℕ

-- the sets are out of the same nodes, and the later one has room for no fewer
pub record IsOutOfSame (before after : NodeSetState) : Type 0 where
  pub below : after.below ≡ before.below
  pub spare : before.spare ≤ after.spare

-- the marks are those of the nodes, each of which is there once
pub record IsNodeSet (marks : List Bool) (nodes : List ℕ) (room : ℕ) : Type 0 where
  pub says : HasMarks marks (length marks) nodes
  pub low : All (λ node. node < length marks) nodes
  pub count : length nodes + unmarked marks ≡ length marks
  pub distinct : IsDistinct nat_eq nodes
  pub room_left : length marks ≤ room

-- a set that grew by nodes of which this holds, out of the same nodes
pub record IsGrown (P : ℕ → Type 0) (old new : NodeSetState) : Type 0 where
  pub more : List ℕ
  pub is : new.nodes ≡ old.nodes ++ more
  pub all : All P more
  pub below : new.below ≡ old.below
  pub spare : old.spare ≤ new.spare

-- a node of which this holds, and which has an edge to this one
abbrev pub IsSource : List Edge → (ℕ → Type 0) → ℕ → ℕ → Type 0
IsSource edges P node source = P source × HasEdge edges source node

-- a node of which this holds, and which reaches one of these
abbrev pub Comes : List Edge → (ℕ → Type 0) → List ℕ → ℕ → Type 0
Comes edges P nodes node =
    P node × ((other : ℕ) × (Contains nodes other × Reaches edges node other))

-- the sources of the node before some place are passed, and those of which the one holds are in the
-- set, or the other holds of them
pub record ArePassed (edges : List Edge) (P R : ℕ → Type 0) (node : ℕ) (nodes : List ℕ)
    (next : Option ℕ) : Type 0 where
  pub start : ℕ
  pub done : List ℕ
  pub first : IsFirstTo edges node start next
  pub sources : sources_of edges node ≡ done ++ sources_of (drop start edges) node
  pub all : (source : ℕ) → Contains done source → P source → Contains nodes source ⊎ R source

-- how many edges are left from a place on
abbrev pub edges_left : List Edge → Option ℕ → ℕ
edges_left edges None = 0
edges_left edges (Some at) = length edges - at

-- with a node, each one that has an edge to it is there if the one holds of it, or the other does
abbrev pub IsClosed : List Edge → (ℕ → Type 0) → (ℕ → Type 0) → List ℕ → Type 0
IsClosed edges P R nodes =
    (a b : ℕ) → HasEdge edges a b → Contains nodes b → P a → Contains nodes a ⊎ R a

-- the same, for the nodes at the places below this
abbrev pub IsClosedBelow : List Edge → (ℕ → Type 0) → (ℕ → Type 0) → List ℕ → ℕ → Type 0
IsClosedBelow edges P R nodes at =
    (a b place : ℕ) → place < at → slice_get nodes place ≡ Some b → HasEdge edges a b → P a
    → Contains nodes a ⊎ R a

-- a node holds up those that include it: it is active, or finalizing and not found
abbrev pub Holds : List State → List ℕ → ℕ → Type 0
Holds states found node =
    IsIn Active states node ⊎ (IsIn Finalizing states node × (¬ Contains found node))

-- the node includes one that holds it up
abbrev pub IsHeldUp : List Edge → List State → List ℕ → ℕ → Type 0
IsHeldUp edges states found node =
    (target : ℕ) × (HasEdge edges node target × Holds states found target)

-- the nodes that may become final with this one; a finalizing one that has an edge to one of them
-- and isn't there reaches an active one
pub record AreFound (edges : List Edge) (states : List State) (node : ℕ)
    (found : List ℕ) : Type 0 where
  pub begun : Contains found node
  pub finalizing : All (IsIn Finalizing states) found
  pub closed : IsClosed edges (IsIn Finalizing states) (ReachesActive edges states) found

-- the nodes that are held up, themselves or by others
pub record AreHeld (edges : List Edge) (states : List State) (found held : List ℕ) : Type 0 where
  pub begun : (node : ℕ) → Contains found node → IsHeldUp edges states found node
      → Contains held node
  pub closed : IsClosed edges (Contains found) (λ n. ⊥) held
  pub sound : (node : ℕ) → Contains held node
      → (other : ℕ) × (Reaches edges node other × Holds states found other)

-- a node of the found ones that isn't held up
abbrev pub is_free : List ℕ → ℕ → Bool
is_free held node = not (has held node)

-- these nodes became final, and all else stayed
pub record AreFreed (more : List ℕ) (old new : List State) : Type 0 where
  pub final : (node : ℕ) → Contains more node → IsIn Finalized new node
  pub others : (node : ℕ) → (¬ Contains more node) → slice_get new node ≡ slice_get old node
  pub count : length new ≡ length old
  pub left : unfinal new + length more ≡ unfinal old

-- all edges join nodes below this
pub record AreWithin (edges : List Edge) (nodes : ℕ) : Type 0 where
  pub from : All (λ edge. edge.from < nodes) edges
  pub to : All (λ edge. edge.to < nodes) edges

-- what a finaliser keeps between calls: a state for each node, nothing left to settle, two empty
-- sets, and room for all finals to come
pub record IsKept (graph : GraphState) (states : List State) (found held : NodeSetState)
    (finals : List ℕ) (room : ℕ) : Type 0 where
  pub nodes : graph.nodes ≡ length states
  pub joined : AreWithin graph.edges (length states)
  pub settled : IsSettled graph.edges states
  pub found_none : found.nodes ≡ []
  pub found_below : found.below ≡ length states
  pub held_none : held.nodes ≡ []
  pub held_below : held.below ≡ length states
  pub left : length finals + unfinal states ≤ length states
  pub room_left : length states ≤ room
  pub within : All (λ node. node < length states) finals
