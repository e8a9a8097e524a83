-- What the tables in memory show of themselves.
use Rattle.std.specs.Prelude.{◌≡◌, ◌≤◌, ℕ}
use Rattle.artifacts.specs.Artifacts as files
use Rattle.test_results.specs.Exonerations as exonerated
use Rattle.test_results.specs.Results as recorded
use Rattle.invocation_world.specs.States as worlds
use Rattle.service_effects.specs.declared.tables.Tables.{Tables}
use Rattle.service_effects.specs.Service.{Recorded}

abbrev pub recorded_in : Tables → Recorded
recorded_in tables = record {
  rows = tables.world.world;
  results = tables.results.rows;
  exonerations = tables.exonerations.rows;
  artifacts = tables.artifacts.rows;
}

-- What is recorded stays, and there is room for no less.
pub record IsRoomier (before after : Tables) : Type 0 where
  pub world : worlds.IsRoomier before.world after.world
  pub results : after.results.rows ≡ before.results.rows
  pub room_of_results : (holder : ℕ)
      → recorded.room_for before.results holder ≤ recorded.room_for after.results holder
  pub exonerations : after.exonerations.rows ≡ before.exonerations.rows
  pub room_of_exonerations : (holder : ℕ)
      → exonerated.room_for before.exonerations holder
      ≤ exonerated.room_for after.exonerations holder
  pub artifacts : after.artifacts.rows ≡ before.artifacts.rows
  pub room_of_artifacts : (holder : ℕ)
      → files.room_for before.artifacts holder ≤ files.room_for after.artifacts holder
