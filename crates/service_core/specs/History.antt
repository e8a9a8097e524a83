-- Histories: what was asked and told, one call after the other.
use Rattle.std.specs.Prelude.{◌≡◌, ◌≢◌, ◌⊎◌, ℕ, ℤ, ◌≤ℤ◌, Bool, true, List, [], ◌∷◌}
use Rattle.request_effects.specs.RequestDemands.Settings.{Settings}
use Rattle.call_forms.specs.declared.asked.Asked.{Asked}
use Rattle.call_forms.specs.declared.forms.Answer.{Answer}
use Rattle.call_forms.specs.declared.forms.Standin.TheVariants.{Unavailable, Memory, Spent}
use Rattle.call_forms.specs.declared.forms.Told.{Told}
use Rattle.call_forms.specs.declared.forms.Told.TheVariants.{Made, Standin as Instead}
use Rattle.invocation_world.specs.World.{IsCallMoment}
use Rattle.invocation_world.specs.Advancing.{IsDueAt}
use Rattle.service_effects.specs.Service.{ServiceWorld}
use Rattle.service_core.specs.Service.{CatchesUp}
use Rattle.service_core.specs.Step.{Step, moment_of}

-- One call: whose seat it came from, its moment, what was asked and what was told, and whether the
-- count of faults of the disk rose in it.
pub record Entry : Type 0 where
  pub seat : ℕ
  pub moment : ℤ
  pub asked : Asked
  pub told : Told
  pub rose : Bool

-- A call may do no more than carry out what is due.
abbrev pub DoesNoMore : ServiceWorld → ℤ → ServiceWorld → Type 0
DoesNoMore w moment after = (after ≡ w) ⊎ CatchesUp w moment after

-- One step of the service for a request leads to another world.
pub record Changes (s : Settings) (w : ServiceWorld) (moment : ℤ) (asked : Asked) : Type 0 where
  pub after : ServiceWorld
  pub answer : Answer
  pub step : Step s w moment asked after answer
  pub other : after ≢ w

-- There is something to record of a request: a deadline is due at its moment, or its step leads to
-- another world.
abbrev pub TakesRecord : Settings → ServiceWorld → ℤ → Asked → Type 0
TakesRecord s w moment asked = IsDueAt w.rows moment ⊎ Changes s w moment asked

-- The disk failed in the call of an entry, of which there is something to record.
pub record IsUnavailable (s : Settings) (w : ServiceWorld) (e : Entry) (after : ServiceWorld)
    : Type 0 where
  pub failed : e.rose ≡ true
  pub takes_record : TakesRecord s w e.moment e.asked
  pub no_more : DoesNoMore w e.moment after

-- What the call of an entry may be told, and the world after it. Want of memory changes nothing but
-- due deadlines, and so does a failure of the disk, which is told only where there is something to
-- record. A call that is told Spent, since no turn is left, has no entry.
abbrev pub Tells : Settings → ServiceWorld → Entry → Told → ServiceWorld → Type 0
Tells s w e (Made answer) after = Step s w e.moment e.asked after answer
Tells s w e (Instead Memory) after = DoesNoMore w e.moment after
Tells s w e (Instead Unavailable) after = IsUnavailable s w e after
Tells s w e (Instead Spent) after = ⊥

-- The entry leads from the world w to the world after.
pub record Leads (s : Settings) (w : ServiceWorld) (e : Entry) (after : ServiceWorld) : Type 0 where
  pub moment : IsCallMoment e.moment
  pub later : w.rows.last ≤ℤ e.moment
  pub tells : Tells s w e e.told after

-- One call of a seat, at the moment that this answer of a clock makes of the world, and whether the
-- count of faults of the disk rose in it.
abbrev pub entry_at : ServiceWorld → ℕ → ℤ → Asked → Told → Bool → Entry
entry_at w seat now asked told rose = record {
  seat = seat;
  moment = moment_of w.rows.last now;
  asked = asked;
  told = told;
  rose = rose;
}

abbrev pub Serves : Settings → ServiceWorld → ℕ → ℤ → Asked → Told → Bool → ServiceWorld → Type 0
Serves s w seat now asked told rose after = Leads s w (entry_at w seat now asked told rose) after

-- Each entry leads from the world that the one before it left.
abbrev pub IsLegal : Settings → ServiceWorld → List Entry → ServiceWorld → Type 0
IsLegal s w [] end = end ≡ w
IsLegal s w (e ∷ h) end = (after : ServiceWorld) × Leads s w e after × IsLegal s after h end

-- The entries have the moments that these answers of a clock make, one answer for each.
abbrev pub IsTimed : Settings → ServiceWorld → List Entry → List ℤ → ServiceWorld → Type 0
IsTimed s w [] [] end = end ≡ w
IsTimed s w [] (now ∷ answers) end = ⊥
IsTimed s w (e ∷ h) [] end = ⊥
IsTimed s w (e ∷ h) (now ∷ answers) end =
    (after : ServiceWorld) × Leads s w e after × (e.moment ≡ moment_of w.rows.last now)
    × IsTimed s after h answers end
