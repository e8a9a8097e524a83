-- Laws of effects.
use Rattle.std.specs.Prelude.{◌≡◌, ◌≢◌, ℤ}
use Rattle.service_effects.specs.declared.effect.Effect.{Effect}
use Rattle.service_effects.specs.declared.effect.Effect.TheVariants as does
use Rattle.service_effects.specs.Service.{Recorded, IsSound}
use Rattle.service_effects.specs.Effects.{Makes}
use Rattle.service_effects.specs.Fitting.{ArePlaced, IsTimely, Suits}
use Rattle.service_effects.specs.Refused.{IsUnrefused}

-- An effect that suits what is recorded, breaks no rule, and places what it adds, leads from what
-- is sound to what is.
abbrev pub EffectsKeepValid : Type 0
EffectsKeepValid =
    (w after : Recorded) (moment : ℤ) (effect : Effect) → IsSound w → IsTimely w.rows moment
    → Suits w.rows moment effect → ArePlaced w.exonerations effect
    → IsUnrefused w effect → Makes moment effect w after
    → IsSound after

-- It leaves something else, but for the one that does nothing, which leaves the same.
abbrev pub EffectsAreChanges : Type 0
EffectsAreChanges =
    (w after : Recorded) (moment : ℤ) (effect : Effect) → IsTimely w.rows moment
    → Suits w.rows moment effect
    → IsUnrefused w effect → Makes moment effect w after
    → (effect ≡ does.Nothing → after ≡ w) × (effect ≢ does.Nothing → after ≢ w)
