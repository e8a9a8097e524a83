-- When rows become final, over whole histories.
use Rattle.std.specs.Prelude.{◌≡◌, ◌⊎◌, ℕ, ℤ, List, [], ◌∷◌, Some, slice_get}
use Rattle.names_realms.specs.declared.states.State.TheVariants.{Finalizing, Finalized}
use Rattle.inclusion_graph.specs.declared.edge.Edge.{Edge}
use Rattle.invocations.specs.declared.invocation.Invocation.{Invocation}
use Rattle.invocations.specs.Rows.{IsInState, ended}
use Rattle.call_forms.specs.declared.forms.Told.{Told}
use Rattle.call_forms.specs.declared.forms.Told.TheVariants.{Made, Standin as Instead}
use Rattle.invocation_world.specs.World.{World, ReachesActive}
use Rattle.invocation_world.specs.Advancing.{AreQuiet, IsLeast}
use Rattle.service_core.specs.RequestDemands.Settings.{Settings}
use Rattle.service_effects.specs.Service.{ServiceWorld}
use Rattle.service_core.specs.History.{Entry, Leads}

-- these rows and inclusions, which changed last at this time
abbrev pub rows_with : List Edge → ℤ → List Invocation → World
rows_with inclusions time rows =
    record { invocations = rows; inclusions = inclusions; last = time }

-- One change, at this time. A row that was finalizing stays as it is, or it is ended at this time.
-- Afterwards a finalizing row reaches an active one, and a final row reaches none. So a row whose
-- finalization began is final from the first change on after which it reaches no active one, and
-- not before. What the change made final has its time as the end, and what was final before stays
-- as it is.
pub record EndsInTime (inclusions : List Edge) (time : ℤ) (before after : List Invocation)
    : Type 0 where
  pub kept : (place : ℕ) (row : Invocation) → slice_get before place ≡ Some row
      → row.state ≡ Finalizing
      → (slice_get after place ≡ Some row) ⊎ (slice_get after place ≡ Some (ended time row))
  pub waiting : (place : ℕ) → IsInState Finalizing after place
      → ReachesActive (rows_with inclusions time after) place
  pub ended : (place : ℕ) → IsInState Finalized after place
      → ¬ ReachesActive (rows_with inclusions time after) place
  pub in_time : (place : ℕ) (row : Invocation) → slice_get after place ≡ Some row
      → row.state ≡ Finalized → (¬ IsInState Finalized before place) → row.finished ≡ Some time
  pub stays : (place : ℕ) (row : Invocation) → slice_get before place ≡ Some row
      → row.state ≡ Finalized → slice_get after place ≡ Some row

-- Deadlines that are due at the moment are carried out one after the other, each the least of them,
-- until nothing is due, and each is a change at its own time.
abbrev pub CarriesInTime : List Edge → ℤ → List ℤ → List Invocation → List Invocation → Type 0
CarriesInTime inclusions moment [] before after = AreQuiet before moment × (after ≡ before)
CarriesInTime inclusions moment (time ∷ times) before after =
    IsLeast before moment time
    × ((between : List Invocation) × EndsInTime inclusions time before between
    × CarriesInTime inclusions moment times between after)

-- An entry leads from one world to the next by all deadlines that are due, and then by what it asks
-- for, at its moment.
pub record IsInTime (w : World) (e : Entry) (after : World) : Type 0 where
  pub deadlines : List ℤ
  pub between : List Invocation
  pub due : CarriesInTime w.inclusions e.moment deadlines w.invocations between
  pub asked : EndsInTime after.inclusions e.moment between after.invocations

-- So does an entry that was answered. One that was told a stand-in may change nothing.
abbrev pub ToldInTime : ServiceWorld → Entry → Told → ServiceWorld → Type 0
ToldInTime w e (Made answer) after = IsInTime w.rows e after.rows
ToldInTime w e (Instead standin) after = (after ≡ w) ⊎ IsInTime w.rows e after.rows

-- So it is with each entry of a history.
abbrev pub AllInTime : Settings → ServiceWorld → List Entry → ServiceWorld → Type 0
AllInTime s w [] end = end ≡ w
AllInTime s w (e ∷ h) end =
    (after : ServiceWorld) × Leads s w e after × ToldInTime w e e.told after
    × AllInTime s after h end
