-- What a request is planned to, and what planning asks of it.
use Rattle.std.specs.Prelude.{◌≡◌, ℕ, ℤ, true, List}
use Rattle.request_rules.specs.MessageForms.declared.requests.Request.{Request}
use Rattle.request_rules.specs.MessageForms.Forms.{IsOfForm}
use Rattle.request_rules.specs.PolicyChecks.Checks.{is_name}
use Rattle.inclusion_graph.specs.Edges.{targets_of}
use Rattle.invocation_world.specs.World.{World}
use Rattle.request_rules.specs.RequestDemands.Demands.{demand_of}
use Rattle.request_rules.specs.RequestDemands.Order.{IsUnbroken}
use Rattle.request_rules.specs.Broken as rules
use Rattle.service_effects.specs.declared.effect.Effect.{Effect}
use Rattle.service_effects.specs.declared.effect.Planned.{Planned}
use Rattle.service_effects.specs.declared.effect.Planned.TheVariants as planned
use Rattle.service_effects.specs.declared.tables.Tables.{Tables}
use Rattle.request_effects.specs.Effects.{include_from}
use Rattle.service_effects.specs.Fitting.{Fits}
use Rattle.service_effects.specs.Planned.{IsRoomPlanned, refusal_of}
use Rattle.service_effects.specs.Refused.{EffectRefused}
use Rattle.service_effects.specs.States.{recorded_in}

-- What an effect needs of a request: it breaks none of the rules that keep the world valid, and its
-- parts and its caller's name are of their forms. Whether it was allowed isn't asked.
pub record IsSafe (w : World) (moment : ℤ) (name : List ℕ) (request : Request) : Type 0 where
  pub active : IsUnbroken (rules.NotActive w.invocations (demand_of request))
  pub reach : IsUnbroken (rules.DeadlineRange moment (demand_of request))
  pub itself : IsUnbroken (rules.Itself (demand_of request))
  pub free : IsUnbroken (rules.Taken w.invocations (demand_of request))
  pub forms : IsOfForm request
  pub name_is : is_name name ≡ true

-- The effect is refused, or it is ready to be done.
abbrev pub IsPlanned : Tables → ℤ → Effect → Planned → Type 0
IsPlanned held moment effect (planned.Refused fault) =
    EffectRefused (recorded_in held) effect (refusal_of fault)
IsPlanned held moment effect (planned.Ready e) = (e ≡ effect) × Fits held moment e

-- Those in the row at a place that it doesn't have yet.
abbrev pub AreEdgesPlanned : Tables → ℕ → List ℕ → Planned → Type 0
AreEdgesPlanned held from targets p =
    IsRoomPlanned held (include_from from (targets_of held.world.world.inclusions from) targets) p
