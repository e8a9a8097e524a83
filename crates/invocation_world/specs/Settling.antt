-- When rows that are finalizing become final.
use Rattle.std.specs.Prelude.{◌≡◌, ◌↔◌, ℕ, ℤ, List, Some, Contains, slice_get}
use Rattle.names_realms.specs.declared.states.State.TheVariants.{Finalizing}
use Rattle.inclusion_graph.specs.declared.edge.Edge.{Edge}
use Rattle.finaliser.specs.Settling as finaliser
use Rattle.invocations.specs.declared.invocation.Invocation.{Invocation}
use Rattle.invocations.specs.Rows.{IsInState, ended, states_of}
use Rattle.invocation_world.specs.World.{World}

-- The rows at these places are ended at the moment, and all others stay.
pub record AreEnded (moment : ℤ) (places : List ℕ) (old new : List Invocation) : Type 0 where
  pub these : (place : ℕ) (row : Invocation) → Contains places place
      → slice_get old place ≡ Some row
      → slice_get new place ≡ Some (ended moment row)
  pub others : (place : ℕ) → (¬ Contains places place) → slice_get new place ≡ slice_get old place

-- There is a list of just the places of the rows that are finalizing and reach no active one. These
-- rows are ended at the moment, all at once, and all other rows stay.
pub record SettlesRows (moment : ℤ) (inclusions : List Edge)
    (old new : List Invocation) : Type 0 where
  pub places : List ℕ
  pub all : (place : ℕ) → Contains places place
      ↔ (IsInState Finalizing old place
      × (¬ finaliser.ReachesActive inclusions (states_of old) place))
  pub are_ended : AreEnded moment places old new

-- The rows settle at this moment, and the inclusions and the last change stay.
pub record Settles (moment : ℤ) (w after : World) : Type 0 where
  pub rows : SettlesRows moment w.inclusions w.invocations after.invocations
  pub inclusions : after.inclusions ≡ w.inclusions
  pub last : after.last ≡ w.last
