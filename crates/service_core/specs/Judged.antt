-- The code's own words: a call that was judged, and what was told for a request at a moment at
-- which nothing is due.
use Rattle.std.specs.Prelude.{◌≡◌, ℤ, Option, Some, None, Result, Ok, Err}
use Rattle.call_forms.specs.declared.asked.Asked.{Asked}
use Rattle.call_forms.specs.declared.forms.Answer.{Answer}
use Rattle.call_forms.specs.declared.forms.Refusal.{Refusal}
use Rattle.call_forms.specs.Rules.{refusal_answer}
use Rattle.call_forms.specs.declared.forms.Standin.TheVariants.{Unavailable, Memory, Spent}
use Rattle.call_forms.specs.declared.forms.Told.{Told}
use Rattle.call_forms.specs.declared.forms.Told.TheVariants.{Made, Standin as Instead}
use Rattle.request_effects.specs.RequestDemands.declared.reading.Call.{Call}
use Rattle.request_effects.specs.RequestDemands.Settings.{Settings}
use Rattle.request_effects.specs.RequestDemands.Demands.{demand_of}
use Rattle.request_effects.specs.Places.{located_in}
use Rattle.request_effects.specs.RequestRules.declared.locating.Located.{Located}
use Rattle.service_effects.specs.Service.{ServiceWorld}
use Rattle.service_effects.specs.States.{recorded_in}
use Rattle.service_core.specs.CoreState.{CoreState, world_in}
use Rattle.service_core.specs.declared.plan.Prepared.{Prepared}
use Rattle.service_core.specs.Plans.{IsPrepared}
use Rattle.invocation_world.specs.World.{IsValid}
use Rattle.service_core.specs.Step.{IsJudgedAs, IsNew, IsTold}

-- The answer refuses the call, by the first rule for what is demanded that it breaks; or it breaks
-- none.
abbrev pub TellsRefusal : Settings → ServiceWorld → ℤ → Asked → Call → Option Answer → Type 0
TellsRefusal s w moment asked call None =
    IsJudgedAs s w moment asked call.caller call.request None
TellsRefusal s w moment asked call (Some answer) =
    (r : Refusal) × IsJudgedAs s w moment asked call.caller call.request (Some r)
    × (answer ≡ refusal_answer r)

-- What was judged of a call: it is new and breaks no rule, and what it names stands at these
-- places; or it isn't to be planned, and this is what it comes to.
unfoldable pub TellsJudged : Settings → CoreState → ℤ → Asked → Call → Result Located Prepared
    → Type 0
TellsJudged s core moment asked call (Ok places) =
    IsNew s (world_in core) moment asked call.caller call.request
    × (TellsRefusal s (world_in core) moment asked call None
    × ((places ≡ located_in (recorded_in core.held) (demand_of call.request))
    × IsValid core.held.world.world))
TellsJudged s core moment asked call (Err p) = IsPrepared s core moment asked p

-- The request is refused, repeated or performed, or want of memory was told and nothing changed.
abbrev pub IsAnswered : Settings → ServiceWorld → ℤ → Asked → Told → ServiceWorld → Type 0
IsAnswered s w moment asked (Made answer) after = IsTold s w moment asked after answer
IsAnswered s w moment asked (Instead Memory) after = after ≡ w
IsAnswered s w moment asked (Instead Unavailable) after = ⊥
IsAnswered s w moment asked (Instead Spent) after = ⊥
