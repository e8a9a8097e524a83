-- Due deadlines lead to one world.
use Rattle.std.proofs.Common.{◌≡◌, ℕ, ℤ, List, [], ◌∷◌, refl, sym, ◌∙◌, ap}
use Rattle.invocations.specs.declared.invocation.Invocation.{Invocation}
use Rattle.invocation_world.specs.World.{World}
use Rattle.invocation_world.specs.Advancing.{AreQuiet, CarriesOut, IsLeast}
use Rattle.invocation_world.proofs.AdvanceFacts.{advanced_once, least_row}
use Rattle.invocation_world.proofs.RowFacts.{all_at}
use Rattle.invocations.specs.Due.{IsDue}
use Rattle.service_effects.specs.Service.{ServiceWorld}
use Rattle.service_effects.specs.Storing.{stored_due}
use Rattle.service_effects.proofs.RoomLaws.{same_parts}
use Rattle.service_core.specs.Service.{CatchesUp}

never_least : (rows : List Invocation) (moment d : ℤ) → AreQuiet rows moment → IsLeast rows moment d → ⊥
never_least rows moment d quiet is =
    let least = least_row rows moment d is in
    all_at (λ r. ¬ IsDue moment r) rows least.place least.row quiet least.stands least.due

-- they are recorded by a tick, or none is due
same_stored : (w : World) (moment : ℤ) (v x : List Invocation) (ds es : List ℤ) (stored : ℕ)
    → CarriesOut w.inclusions moment w.invocations ds v → CarriesOut w.inclusions moment w.invocations es x → stored_due ds stored ≡ stored_due es stored
same_stored w moment v x [] [] stored this that = refl
same_stored w moment v x [] (e ∷ es) stored this that = absurd (never_least w.invocations moment e this.0 that.0)
same_stored w moment v x (d ∷ ds) [] stored this that = absurd (never_least w.invocations moment d that.0 this.0)
same_stored w moment v x (d ∷ ds) (e ∷ es) stored this that = refl

pub one_between : (w : ServiceWorld) (moment : ℤ) (v x : ServiceWorld) → CatchesUp w moment v → CatchesUp w moment x → v ≡ x
one_between w moment v x this that =
    let a = this.due.rows in
    let b = that.due.rows in
    same_parts v x (advanced_once moment w.rows v.rows x.rows a b) (this.due.results ∙ sym that.due.results)
    (this.due.exonerations ∙ sym that.due.exonerations) (this.due.artifacts ∙ sym that.due.artifacts) (this.kept ∙ sym that.kept)
    (this.stored
    ∙ (same_stored w.rows moment a.rows b.rows a.deadlines b.deadlines w.stored a.carried b.carried
    ∙ sym that.stored))
