-- Nothing is due once due deadlines are carried out; and histories go on by one call.
use Rattle.std.proofs.Common.{ℤ, ◌≤ℤ◌, List, [], ◌∷◌, refl, sym, subst, arith}
use Rattle.std.proofs.lemmas.Int.{ints}
use Rattle.invocations.specs.declared.invocation.Invocation.{Invocation}
use Rattle.invocation_world.specs.World.{World, IsCallMoment}
use Rattle.invocation_world.specs.World as worlds
use Rattle.invocation_world.specs.Advancing.{Advances, after_deadlines}
use Rattle.invocation_world.proofs.AdvanceFacts.{advance_valid}
use Rattle.service_effects.specs.Fitting.{IsTimely}
use Rattle.service_effects.specs.Service.{ServiceWorld}
use Rattle.service_core.specs.History.{IsTimed}
use Rattle.service_core.specs.Laws.{TimedGoesOn, TimedIsLegal}

last_after : (moment : ℤ) (ds : List ℤ) (rows : List Invocation) (w : World) → w.last ≤ℤ moment
    → (after_deadlines moment ds rows w).last ≤ℤ moment
last_after moment [] rows w later = later
last_after moment (d ∷ ds) rows w later = omega (arith, ints)

-- once due deadlines are carried out, nothing is due
pub advanced_timely : (w between : World) (moment : ℤ) → worlds.IsValid w → IsCallMoment moment → w.last ≤ℤ moment → Advances w moment between
    → IsTimely between moment
advanced_timely w between moment valid call later advances =
    let both = advance_valid moment w between valid call later advances in
    record {
      valid = both.0;
      call = call;
      later = subst (λ (v : World). v.last ≤ℤ moment) (sym advances.after_is) (last_after moment advances.deadlines advances.rows w later);
      quiet = both.1;
    }

pub timed_is_legal : TimedIsLegal
timed_is_legal s w [] [] v end = end
timed_is_legal s w [] (now ∷ answers) v never = absurd never
timed_is_legal s w (e ∷ h) [] v never = absurd never
timed_is_legal s w (e ∷ h) (now ∷ answers) v timed = (timed.0, timed.1, timed_is_legal s timed.0 h answers v timed.3)

pub timed_goes_on : TimedGoesOn
timed_goes_on s w [] [] v e now x end leads at =
    subst (λ (u : ServiceWorld). IsTimed s u (e ∷ []) (now ∷ []) x) end (x, leads, at, refl)
timed_goes_on s w [] (n ∷ answers) v e now x never leads at = absurd never
timed_goes_on s w (f ∷ h) [] v e now x never leads at = absurd never
timed_goes_on s w (f ∷ h) (n ∷ answers) v e now x timed leads at =
    (timed.0, timed.1, timed.2, timed_goes_on s timed.0 h answers v e now x timed.3 leads at)
