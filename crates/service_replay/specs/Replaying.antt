-- The code's own words: what a recorded request is planned to.
use Rattle.std.specs.Prelude.{◌≡◌, ◌≢◌, ℕ, ◌+◌, ℤ, List}
use Rattle.service_core.specs.MessageForms.declared.requests.Request.{Request}
use Rattle.service_core.specs.RequestDemands.Demands.{demand_of}
use Rattle.service_core.specs.RequestRules.Again.{IsRight}
use Rattle.service_effects.specs.declared.effect.Effect.{Effect}
use Rattle.service_effects.specs.declared.effect.Effect.TheVariants as does
use Rattle.service_effects.specs.Effects.{Makes}
use Rattle.service_effects.specs.Refused.{IsUnrefused}
use Rattle.service_effects.specs.Service.{ServiceWorld, recorded}
use Rattle.service_effects.specs.Storing.{IsStorable}
use Rattle.service_core.specs.RequestEffects.Effects.{effect_of}
use Rattle.service_core.specs.RequestEffects.Keeps.{kept_of, with_kept}
use Rattle.service_core.specs.RequestEffects.Places.{held_in}
use Rattle.service_core.specs.declared.plan.CallRecord.{CallRecord}

-- A request breaks none of the rules that are asked again, at a moment.
abbrev pub IsRightIn : ServiceWorld → ℤ → Request → Type 0
IsRightIn w moment request =
    IsRight w.rows.invocations (held_in (recorded w)) moment (demand_of request)

-- The effect is done at a moment for a caller of this name, isn't refused and changes something,
-- what is kept of it is kept, and its record takes its bytes.
pub record IsDoneAgain (w : ServiceWorld) (moment : ℤ) (name : List ℕ) (said : CallRecord)
    (effect : Effect) (after : ServiceWorld) : Type 0 where
  pub room : IsUnrefused (recorded w) effect
  pub store : IsStorable w.stored said.length
  pub changes : effect ≢ does.Nothing
  pub made : Makes moment effect (recorded w) (recorded after)
  pub kept : after.kept ≡ with_kept w.kept (kept_of (recorded w) name said.numbered effect)
  pub stored : after.stored ≡ w.stored + said.length

-- So is what a recorded request does.
abbrev pub IsActedAgain : ServiceWorld → ℤ → List ℕ → CallRecord → Request → ServiceWorld → Type 0
IsActedAgain w moment name said request after =
    IsDoneAgain w moment name said (effect_of (recorded w) moment name request) after
