-- Laws of histories whose moments a clock made.
use Rattle.std.specs.Prelude.{◌≡◌, ℤ, List, [], ◌∷◌, ◌++◌}
use Rattle.request_effects.specs.RequestDemands.Settings.{Settings}
use Rattle.service_effects.specs.Service.{ServiceWorld}
use Rattle.service_core.specs.History.{Entry, IsLegal, IsTimed, Leads}
use Rattle.service_core.specs.Step.{moment_of}

-- A history of calls whose moments a clock made is legal.
abbrev pub TimedIsLegal : Type 0
TimedIsLegal =
    (s : Settings) (w : ServiceWorld) (h : List Entry) (answers : List ℤ) (v : ServiceWorld)
    → IsTimed s w h answers v → IsLegal s w h v

-- A history goes on by one call, at the moment that one more answer of the clock makes.
abbrev pub TimedGoesOn : Type 0
TimedGoesOn =
    (s : Settings) (w : ServiceWorld) (h : List Entry) (answers : List ℤ) (v : ServiceWorld)
    (e : Entry) (now : ℤ) (x : ServiceWorld)
    → IsTimed s w h answers v → Leads s v e x → e.moment ≡ moment_of v.rows.last now
    → IsTimed s w (h ++ e ∷ []) (answers ++ now ∷ []) x
