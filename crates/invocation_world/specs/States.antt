-- What the world in memory and its plans show of themselves.
use Rattle.std.specs.Prelude.{◌≡◌, ◌≢◌, ℕ, ◌+◌, ◌-◌, ◌<◌, ◌≤◌, length, All}
use Rattle.names_realms.specs.declared.states.State.TheVariants.{Active}
use Rattle.inclusion_graph.specs.Edges.{GraphState, fresh, targets_of}
use Rattle.inclusion_graph.specs.Plans.{PlanState}
use Rattle.invocations.specs.Rows.{IsInState}
use Rattle.invocation_world.specs.World.{World}

-- For how many more rows and inclusions there is room.
pub record Room : Type 0 where
  pub rows : ℕ
  pub inclusions : ℕ

-- The world, and what there is room for.
pub record WorldState : Type 0 where
  pub world : World
  pub room : Room

-- There is room for no fewer rows, and for no fewer inclusions.
pub record IsNoLess (before after : Room) : Type 0 where
  pub rows : before.rows ≤ after.rows
  pub inclusions : before.inclusions ≤ after.inclusions

-- The world stays, and there is no less room.
pub record IsRoomier (before after : WorldState) : Type 0 where
  pub world : after.world ≡ before.world
  pub room : IsNoLess before.room after.room

-- room for one row less
abbrev pub without_row : Room → Room
without_row room = record room { rows = room.rows - 1 }

-- room for so many inclusions less
abbrev pub without_inclusions : ℕ → Room → Room
without_inclusions count room = record room { inclusions = room.inclusions - count }

-- the graph of the inclusions, with as much room
abbrev pub graph_of : WorldState → GraphState
graph_of state = record {
  nodes = length state.world.invocations;
  edges = state.world.inclusions;
  spare_nodes = state.room.rows;
  spare_edges = state.room.inclusions;
}

-- The plan fits the world: its row is active, the targets are other rows that are there, which it
-- doesn't include yet, each once, and there is room for them.
pub record Fits (state : WorldState) (plan : PlanState) : Type 0 where
  pub active : IsInState Active state.world.invocations plan.from
  pub held : plan.held ≡ targets_of state.world.inclusions plan.from
  pub new : fresh plan.held plan.targets ≡ plan.targets
  pub there : All (λ target. target < length state.world.invocations) plan.targets
  pub elsewhere : All (λ target. target ≢ plan.from) plan.targets
  pub few : length state.world.inclusions + length plan.targets ≤ 262_144
  pub room : length plan.targets ≤ state.room.inclusions
