-- The code's own words for the parts of which the world in memory is made.
use Rattle.std.specs.Prelude.{◌≡◌, ℤ, ◌≤◌, []}
use Rattle.finaliser.specs.Settling.{FinaliserState}
use Rattle.invocations.specs.Rows.{TableState, states_of}
use Rattle.invocation_world.specs.World.{World, IsValid}

abbrev pub world_of : TableState → FinaliserState → ℤ → World
world_of table finaliser last =
    record { invocations = table.rows; inclusions = finaliser.graph.edges; last = last }

-- the states of the finaliser are those of the rows, and none is newly final
pub record AreLinked (table : TableState) (finaliser : FinaliserState) : Type 0 where
  pub states : finaliser.states ≡ states_of table.rows
  pub finals : finaliser.finals ≡ []

-- the later table and finaliser are linked, the graph stays, and there is room for no fewer rows
-- and nodes
pub record StayLinked (table : TableState) (finaliser : FinaliserState)
    (new_table : TableState) (new_finaliser : FinaliserState) : Type 0 where
  pub linked : AreLinked new_table new_finaliser
  pub graph : new_finaliser.graph ≡ finaliser.graph
  pub rows : table.spare ≤ new_table.spare
  pub nodes : finaliser.spare ≤ new_finaliser.spare

-- what the world keeps between calls
pub record IsKept (table : TableState) (finaliser : FinaliserState) (last : ℤ) : Type 0 where
  pub valid : IsValid (world_of table finaliser last)
  pub linked : AreLinked table finaliser
