-- The code's own words for what is known of the targets of each node.
use Rattle.std.specs.Prelude.{◌≡◌, ◌⊎◌, ℕ, ◌<◌, ◌≤◌, List, Some, length, slice_get, slice_set, take}
use Rattle.std.specs.List.{All}
use Rattle.names_realms.specs.declared.states.State.{State}
use Rattle.names_realms.specs.declared.states.State.TheVariants.{Finalized}
use Rattle.inclusion_graph.specs.declared.edge.Edge.{Edge}
use Rattle.inclusion_graph.specs.Edges.{targets_of}
use Rattle.inclusion_graph.specs.Walks.{Reaches}
use Rattle.finaliser.specs.declared.watches.Watch.{Watch}
use Rattle.finaliser.specs.Settling.{IsIn}

-- so many of the first targets of the node are final, and it reaches the other one
pub record IsWatch (edges : List Edge) (states : List State)
    (node : ℕ) (watch : Watch) : Type 0 where
  pub few : watch.passed ≤ length (targets_of edges node)
  pub passed : All (IsIn Finalized states) (take watch.passed (targets_of edges node))
  pub there : watch.aim < length states
  pub reaches : Reaches edges node watch.aim

-- there is a watch for each node
pub record AreWatched (edges : List Edge) (states : List State)
    (watches : List Watch) : Type 0 where
  pub count : length watches ≡ length states
  pub each : (node : ℕ) (watch : Watch) → slice_get watches node ≡ Some watch
      → IsWatch edges states node watch

-- the node has another aim, or all stays
abbrev pub IsAimed : List Watch → List Watch → ℕ → ℕ → Type 0
IsAimed old new node aim =
    (new ≡ old)
    ⊎ ((watch : Watch) × (slice_get old node ≡ Some watch)
    × (new ≡ slice_set old node (record { passed = watch.passed; aim = aim })))
