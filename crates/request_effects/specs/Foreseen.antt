-- The code's own words: what an effect will leave of the invocation that it is about.
use Rattle.std.specs.Prelude.{⊤, ◌≡◌, ◌<◌, ◌↔◌, ℕ, ℤ, Bool, true, false, IsTrue, List, length}
use Rattle.artifacts.specs.Requests.{DigestedState}
use Rattle.invocations.specs.declared.invocation.Invocation.{Invocation}
use Rattle.invocations.specs.Rows.{ended}
use Rattle.test_results.specs.declared.exoneration.TestExoneration.{TestExoneration}
use Rattle.test_results.specs.declared.result.TestResult.{TestResult}
use Rattle.invocation_world.specs.World.{World, ReachesActive}
use Rattle.invocation_world.specs.Changes.{with_begun}
use Rattle.request_effects.specs.declared.ahead.Ahead.{Ahead}
use Rattle.service_effects.specs.declared.effect.Effect.{Effect}
use Rattle.service_effects.specs.declared.effect.Effect.TheVariants as does
use Rattle.request_effects.specs.declared.shows.Shows.{Shows}
use Rattle.request_effects.specs.declared.shows.Shows.TheVariants as shows
use Rattle.service_effects.specs.Effects.{Does, Makes}
use Rattle.service_effects.specs.Service.{Recorded}
use Rattle.service_effects.specs.States.{recorded_in}
use Rattle.service_effects.specs.Fitting.{IsTimely, Suits}

-- the row ended, too, where it is final
abbrev pub ended_if : Bool → ℤ → Invocation → Invocation
ended_if true moment row = ended moment row
ended_if false moment row = row

-- It is told whether the row whose finalization an effect begins is final at once.
abbrev pub IsFinalTold : World → ℤ → Effect → Bool → Type 0
IsFinalTold w moment does.Nothing is_final = ⊤
IsFinalTold w moment (does.Add row) is_final = ⊤
IsFinalTold w moment (does.Update place deadline tags) is_final = ⊤
IsFinalTold w moment (does.End place) is_final =
    IsTrue is_final ↔ ¬ ReachesActive (with_begun moment place w) place
IsFinalTold w moment (does.Include plan) is_final = ⊤
IsFinalTold w moment (does.Results batch) is_final = ⊤
IsFinalTold w moment (does.Exonerations batch) is_final = ⊤
IsFinalTold w moment (does.Artifacts batch) is_final = ⊤

-- The row at this place is the one that an effect is about; the effect that does nothing is about
-- any.
abbrev pub IsHere : World → Effect → ℕ → Type 0
IsHere w does.Nothing place = place < length w.invocations
IsHere w (does.Add row) place = place ≡ length w.invocations
IsHere w (does.Update at deadline tags) place = place ≡ at
IsHere w (does.End at) place = place ≡ at
IsHere w (does.Include plan) place = ⊥
IsHere w (does.Results batch) place = ⊥
IsHere w (does.Exonerations batch) place = ⊥
IsHere w (does.Artifacts batch) place = ⊥

-- So many rows from this place on are those that an effect adds to so many.
abbrev pub AreAdded : ℕ → ℕ → ℕ → ℕ → Type 0
AreAdded before added first count = (first ≡ before) × (count ≡ added)

-- What is shown is what an effect is about.
abbrev pub IsOwn : Recorded → Effect → Shows → Type 0
IsOwn w effect shows.Empty = ⊤
IsOwn w effect (shows.Row place) = IsHere w.rows effect place
IsOwn w effect (shows.Made place) = IsHere w.rows effect place
IsOwn w effect (shows.Results first count) =
    (batch : List TestResult) × (effect ≡ does.Results batch)
    × AreAdded (length w.results) (length batch) first count
IsOwn w effect (shows.Exonerations first count) =
    (batch : List TestExoneration) × (effect ≡ does.Exonerations batch)
    × AreAdded (length w.exonerations) (length batch) first count
IsOwn w effect (shows.Artifacts first count) =
    (batch : DigestedState) × (effect ≡ does.Artifacts batch)
    × AreAdded (length w.artifacts) (length batch.rows) first count

-- What is seen ahead is what a change will leave: it suits the world, and it is told whether what
-- it ends is final at once.
pub record Foresees (a : Ahead) : Type 0 where
  pub timely : IsTimely a.tables.now.world.world a.moment
  pub suits : Suits a.tables.now.world.world a.moment a.effect.now
  pub told : IsFinalTold a.tables.now.world.world a.moment a.effect.now a.is_final

-- the invocations that it leaves, and all that it leaves
abbrev pub Leaves : Ahead → World → Type 0
Leaves a after = Does a.moment a.effect.now a.tables.now.world.world after

abbrev pub LeavesAll : Ahead → Recorded → Type 0
LeavesAll a after = Makes a.moment a.effect.now (recorded_in a.tables.now) after
