-- The code's own words for a search, which goes from node to node.
use Rattle.std.specs.Prelude.{◌≡◌, ℕ, ◌<◌, ◌≤◌, ◌⊎◌, Bool, false, List, ◌++◌, Option, Some, MatchOption, length, map, slice_get, slice_index_or, Contains, Vec, ◌↔◌, nat_eq}
use Rattle.std.specs.List.{All}
use Rattle.std.specs.Map.{lookup}
use Rattle.std.specs.declared.alloc.Global.{Global}
use Rattle.inclusion_graph.specs.declared.edge.Edge.{Edge}
use Rattle.inclusion_graph.specs.declared.search.Step.{Step}
use Rattle.inclusion_graph.specs.Edges.{HasEdge, has, targets_of}

abbrev pub nodes_of : List Step → List ℕ
nodes_of steps = map (λ step. step.node) steps

-- marks for the numbers below this, set for those of the list
abbrev pub HasMarks : List Bool → ℕ → List ℕ → Type 0
HasMarks marks below numbers =
    (length marks ≡ below)
    × ((number : ℕ) → number < below → slice_index_or marks number false ≡ has numbers number)

-- marks for the targets that were named so far; the list has these, and those to which an edge
-- leads from the node
pub record IsJoined (edges : List Edge) (from below : ℕ) (named : List ℕ) (marks : List Bool)
    (all : List ℕ) : Type 0 where
  pub says : HasMarks marks below named
  pub there : (node : ℕ) → Contains all node ↔ (HasEdge edges from node ⊎ Contains named node)

-- the map has just the nodes that are found, each with the place of its step
abbrev pub IsPlaced : List (ℕ × ℕ) → List Step → Type 0
IsPlaced places steps =
    (node place : ℕ)
    → (lookup (nat_eq node) places ≡ Some place) ↔ (slice_get (nodes_of steps) place ≡ Some node)

-- behind the steps stand some more, each to one of these targets
pub record IsGrown (targets : List ℕ) (back : Option ℕ) (old new : List Step) : Type 0 where
  pub more : List Step
  pub is : new ≡ old ++ more
  pub steps : All (λ step. Contains targets step.node × (step.back ≡ back)) more
  pub all : (target : ℕ) → Contains targets target → Contains (nodes_of new) target

-- a step is to a root, or along an edge from the node of an earlier step
abbrev pub IsRooted : List Edge → List ℕ → List Step → Type 0
IsRooted edges roots steps =
    (place : ℕ) (step : Step) → slice_get steps place ≡ Some step
    → MatchOption step.back (Contains roots step.node)
    (λ back. (back < place)
    × ((node : ℕ) × (slice_get (nodes_of steps) back ≡ Some node)
    × HasEdge edges node step.node))

-- so far has a search come whose steps before this place were gone on from
pub record IsSearched (edges : List Edge) (roots : List ℕ) (steps : List Step)
    (at : ℕ) : Type 0 where
  pub rooted : IsRooted edges roots steps
  pub begun : (root : ℕ) → Contains roots root → Contains (nodes_of steps) root
  pub closed : (place node target : ℕ) → place < at → slice_get (nodes_of steps) place ≡ Some node
      → HasEdge edges node target
      → Contains (nodes_of steps) target

-- the lists of targets are those of the edges, and all is within the nodes
pub record IsListed (edges : List Edge) (targets : List (Vec ℕ Global)) : Type 0 where
  pub lists : (node : ℕ) (list : Vec ℕ Global) → slice_get targets node ≡ Some list
      → list.items ≡ targets_of edges node
  pub from : All (λ edge. edge.from < length targets) edges
  pub to : All (λ edge. edge.to < length targets) edges
  pub few : length edges ≤ 262_144
  pub nodes : length targets ≤ 4_294_967_295
