-- The world of the service between two steps, and what due deadlines make of it.
use Rattle.std.specs.Prelude.{◌≡◌, ℤ}
use Rattle.invocation_world.specs.Advancing.{Advances}
use Rattle.request_effects.specs.RequestDemands.Settings.{Settings}
use Rattle.service_effects.specs.Service.{Recorded, ServiceWorld, recorded}
use Rattle.service_effects.specs.Storing.{stored_due}

-- A service: what it is set up with, and its world.
pub record Service : Type 0 where
  pub settings : Settings
  pub world : ServiceWorld

abbrev pub service_of : Settings → ServiceWorld → Service
service_of s w = record { settings = s; world = w }

-- The deadlines that are due at a moment are carried out. That is a change of the invocations
-- alone.
pub record CarriesDue (w : Recorded) (moment : ℤ) (after : Recorded) : Type 0 where
  pub rows : Advances w.rows moment after.rows
  pub results : after.results ≡ w.results
  pub exonerations : after.exonerations ≡ w.exonerations
  pub artifacts : after.artifacts ≡ w.artifacts

pub record CatchesUp (w : ServiceWorld) (moment : ℤ) (after : ServiceWorld) : Type 0 where
  pub due : CarriesDue (recorded w) moment (recorded after)
  pub kept : after.kept ≡ w.kept
  pub stored : after.stored ≡ stored_due due.rows.deadlines w.stored
