-- What is done, and what is planned.
use Rattle.std.proofs.Common.{◌≡◌, ◌<◌, ◌≤◌, ◌+◌, ℕ, ℤ, Bool, List, [], ◌∷◌, length, codes, Option, Some, refl, sym, ap, ◌∙◌, subst, arith}
use Rattle.std.specs.Prelude.{◌↔◌, IsTrue}
use Rattle.inclusion_graph.specs.Edges.{fresh, targets_of}
use Rattle.inclusion_graph.specs.Plans.{IsEdgeFault}
use Rattle.inclusion_graph.specs.declared.plan.EdgeFault.{EdgeFault}
use Rattle.inclusion_graph.specs.declared.plan.EdgeFault.TheVariants as edge_fault
use Rattle.invocations.specs.declared.invocation.Invocation.{Invocation}
use Rattle.invocations.specs.declared.faults.AddFault.{AddFault}
use Rattle.invocations.specs.declared.faults.AddFault.TheVariants as add_fault
use Rattle.invocations.specs.Faults.{CanAdd, IsAddFault}
use Rattle.invocations.specs.Rows.{HasId}
use Rattle.request_rules.proofs.PlaceLaws.{place_of-has}
use Rattle.request_rules.specs.InvocationForms.declared.create.CreateInvocation.{CreateInvocation}
use Rattle.request_rules.specs.InvocationForms.declared.named.NamedInvocation.{NamedInvocation}
use Rattle.request_rules.specs.MessageForms.declared.requests.Request.{Request}
use Rattle.request_rules.specs.MessageForms.declared.requests.Request.TheVariants as asks
use Rattle.request_rules.specs.InvocationForms.declared.updates.UpdateInvocation.{UpdateInvocation}
use Rattle.invocation_world.specs.World.{World, IsValid, ReachesActive, new_row}
use Rattle.invocation_world.specs.States.{WorldState, graph_of}
use Rattle.invocation_world.specs.Changes.{with_begun}
use Rattle.request_rules.specs.Named.{place_named, places_named}
use Rattle.service_effects.specs.declared.effect.Effect.{Effect}
use Rattle.service_effects.specs.declared.effect.Effect.TheVariants as does
use Rattle.service_effects.specs.declared.effect.Planned.{Planned}
use Rattle.service_effects.specs.declared.effect.Planned.TheVariants as planned
use Rattle.service_effects.specs.declared.tables.Tables.{Tables}
use Rattle.service_effects.specs.Service.{Recorded}
use Rattle.service_effects.specs.States.{recorded_in}
use Rattle.request_effects.specs.Effects.{effect_of, end_at, include_at, include_from, include_of, update_at}
use Rattle.service_effects.specs.Fitting.{Fits, HasRoom, IsTimely, Suits}
use Rattle.request_effects.specs.Foreseen.{IsFinalTold}
use Rattle.service_effects.specs.Refused.{EffectRefused, table_full}
use Rattle.service_effects.specs.Planned.{IsRoomPlanned, refusal_of}
use Rattle.request_effects.specs.Planned.{AreEdgesPlanned, IsPlanned, IsSafe}
use Rattle.request_effects.proofs.SafeLaws.{name_is_free, of_end_at, of_update_at, suits}

-- it is told whether a row is final at once
pub final_told : (w : World) (moment : ℤ) (effect : Effect) (place : ℕ) (is_final : Bool) → effect ≡ does.End place
    → (IsTrue is_final ↔ ¬ ReachesActive (with_begun moment place w) place) → IsFinalTold w moment effect is_final
final_told w moment effect place is_final is tells = subst (λ (e : Effect). IsFinalTold w moment e is_final) (sym is) tells

-- ---- what suits a world, and for which there is room, is planned

fits_as : (w : World) (new : Tables) (moment : ℤ) (effect e : Effect) → new.world.world ≡ w → IsTimely w moment → Suits w moment effect
    → e ≡ effect → HasRoom new e → (e ≡ effect) × Fits new moment e
fits_as w new moment effect e same timely may is room = (
  is,
  record {
    timely = subst (λ (v : World). IsTimely v moment) (sym same) timely;
    suits = subst (λ (v : World). Suits v moment e) (sym same) (subst (Suits w moment) (sym is) may);
    room = room;
  },
)

pub row_ready : (w : Recorded) (new : Tables) (moment : ℤ) (name : List ℕ) (q : CreateInvocation) (row : Invocation) → new.world.world ≡ w.rows
    → IsTimely w.rows moment → IsSafe w.rows moment name (asks.CreateInvocation q)
    → row ≡ new_row moment name q.id q.invocation.realm q.invocation.deadline q.invocation.tags → CanAdd w.rows.invocations row.id
    → 0 < new.world.room.rows
    → (does.Add row ≡ effect_of w moment name (asks.CreateInvocation q)) × Fits new moment (does.Add row)
row_ready w new moment name q row same timely safe is can room =
    fits_as w.rows new moment (effect_of w moment name (asks.CreateInvocation q)) (does.Add row) same timely
    (suits w moment name (asks.CreateInvocation q) timely safe) (ap (λ (r : Invocation). does.Add r) is)
    (subst (λ (v : World). length v.invocations < 65_536) (sym same) can.1, room)

-- a request that takes no room is planned
roomless : (held : Tables) (moment : ℤ) (name : List ℕ) (request shape : Request) (e : Effect) → IsTimely held.world.world moment
    → IsSafe held.world.world moment name request → request ≡ shape → e ≡ effect_of (recorded_in held) moment name shape
    → HasRoom held (effect_of (recorded_in held) moment name shape) → IsPlanned held moment (effect_of (recorded_in held) moment name request) (planned.Ready e)
roomless held moment name request shape e timely safe request_is is room =
    fits_as held.world.world held moment (effect_of (recorded_in held) moment name request) e refl timely (suits (recorded_in held) moment name request timely safe)
    (is ∙ ap (effect_of (recorded_in held) moment name) (sym request_is)) (subst (HasRoom held) (sym is) room)

pub update_ready : (held : Tables) (moment : ℤ) (name : List ℕ) (request : Request) (q : UpdateInvocation) (e : Effect) (place : Option ℕ)
    → IsTimely held.world.world moment → IsSafe held.world.world moment name request → request ≡ asks.UpdateInvocation q
    → e ≡ update_at held.world.world.invocations q.deadline q.tags place → place ≡ place_named held.world.world.invocations q.id
    → IsPlanned held moment (effect_of (recorded_in held) moment name request) (planned.Ready e)
update_ready held moment name request q e place timely safe request_is is place_is =
    roomless held moment name request (asks.UpdateInvocation q) e timely safe request_is
    (is ∙ ap (update_at held.world.world.invocations q.deadline q.tags) place_is)
    (of_update_at (HasRoom held) tt held.world.world.invocations q.deadline q.tags (place_named held.world.world.invocations q.id) (λ at. tt))

pub end_ready : (held : Tables) (moment : ℤ) (name : List ℕ) (request : Request) (q : NamedInvocation) (e : Effect) (place : Option ℕ)
    → IsTimely held.world.world moment → IsSafe held.world.world moment name request → request ≡ asks.FinalizeInvocation q
    → e ≡ end_at held.world.world.invocations place → place ≡ place_named held.world.world.invocations q.id
    → IsPlanned held moment (effect_of (recorded_in held) moment name request) (planned.Ready e)
end_ready held moment name request q e place timely safe request_is is place_is =
    roomless held moment name request (asks.FinalizeInvocation q) e timely safe request_is
    (is ∙ ap (end_at held.world.world.invocations) place_is)
    (of_end_at (HasRoom held) tt held.world.world.invocations (place_named held.world.world.invocations q.id) (λ at. tt))

-- ---- a new row

pub row_taken : (rows : List Invocation) (id : List ℕ) (fault : AddFault) (place : ℕ) → fault ≡ add_fault.Taken place → IsAddFault rows id fault
    → (HasId rows id → ⊥) → ⊥
row_taken rows id fault place fault_is is free = free (place_of-has rows id place (subst (IsAddFault rows id) fault_is is))

pub row_free : (w : World) (moment : ℤ) (name : List ℕ) (q : CreateInvocation) (row : Invocation) → IsSafe w moment name (asks.CreateInvocation q)
    → row ≡ new_row moment name q.id q.invocation.realm q.invocation.deadline q.invocation.tags → ¬ HasId w.invocations row.id
row_free w moment name q row safe is =
    subst (λ (r : Invocation). ¬ HasId w.invocations r.id) (sym is) (name_is_free w moment name (asks.CreateInvocation q) q.id safe refl)

-- ---- inclusions

edges_over : (w : Recorded) (place : ℕ) (held ts : List ℕ) → length w.rows.inclusions ≤ 262_144
    → 262_144 < length w.rows.inclusions + length ts
    → EffectRefused w (include_of place held ts) (table_full (codes "inclusions") (length w.rows.inclusions))
edges_over w place held [] few many = absurd (omega (arith, few, many))
edges_over w place held (t ∷ ts) few many = (many, refl)

-- what is held, with these invocations
abbrev with_rows : Tables → World → Recorded
with_rows held w = record { rows = w; results = held.results.rows; exonerations = held.exonerations.rows; artifacts = held.artifacts.rows }

pub edges_full : (old : WorldState) (new : Tables) (place : ℕ) (targets : List ℕ) (fault : EdgeFault) (count : ℕ) → IsValid old.world
    → new.world.world ≡ old.world → fault ≡ edge_fault.Full count → IsEdgeFault (graph_of old) place targets fault
    → EffectRefused (recorded_in new) (include_from place (targets_of new.world.world.inclusions place) targets)
    (table_full (codes "inclusions") count)
edges_full old new place targets fault count valid same fault_is is =
    let full = subst (IsEdgeFault (graph_of old) place targets) fault_is is in
    let over : EffectRefused (with_rows new old.world) (include_from place (targets_of old.world.inclusions place) targets)
    (table_full (codes "inclusions") (length old.world.inclusions)) =
    edges_over (with_rows new old.world) place (targets_of old.world.inclusions place)
    (fresh (targets_of old.world.inclusions place) targets) valid.few full.1 in
    subst (λ (w : World). EffectRefused (with_rows new w) (include_from place (targets_of w.inclusions place) targets)
    (table_full (codes "inclusions") count)) (sym same)
    (subst (λ (n : ℕ). EffectRefused (with_rows new old.world) (include_from place (targets_of old.world.inclusions place) targets)
    (table_full (codes "inclusions") n)) (sym full.2) over)

-- an effect that suits a world, and for which there is room, is planned
pub room_ready : (w : World) (new : Tables) (moment : ℤ) (effect shape : Effect) (p : Planned) → new.world.world ≡ w → IsTimely w moment
    → Suits w moment effect → shape ≡ effect → IsRoomPlanned new shape p → IsPlanned new moment effect p
room_ready w new moment effect shape (planned.Refused fault) same timely may is refused =
    subst (λ (e : Effect). EffectRefused (recorded_in new) e (refusal_of fault)) is refused
room_ready w new moment effect shape (planned.Ready e) same timely may is ready =
    fits_as w new moment effect e same timely may (ready.0 ∙ is) ready.1

-- what is planned for the inclusions of a request, in the world as it stands
pub inclusions_planned : (w : World) (new : Tables) (moment : ℤ) (ids : List (List ℕ)) (found : Option ℕ) (place : ℕ) (targets : List ℕ)
    (p : Planned) → new.world.world ≡ w → IsTimely w moment → Suits w moment (include_at w (places_named w.invocations ids) found)
    → found ≡ Some place → targets ≡ places_named w.invocations ids → AreEdgesPlanned new place targets p
    → IsPlanned new moment (include_at w (places_named w.invocations ids) found) p
inclusions_planned w new moment ids found place targets p same timely may at targets_are is =
    room_ready w new moment (include_at w (places_named w.invocations ids) found)
    (include_from place (targets_of new.world.world.inclusions place) targets) p same timely may
    (ap (λ (v : World). include_from place (targets_of v.inclusions place) targets) same
    ∙ (ap (λ (ts : List ℕ). include_from place (targets_of w.inclusions place) ts) targets_are
    ∙ ap (include_at w (places_named w.invocations ids)) (sym at))) is

-- what is planned of a batch
pub batch_planned : (w : Recorded) (new : Tables) (moment : ℤ) (name : List ℕ) (request shape : Request) (e : Effect) (p : Planned)
    → new.world.world ≡ w.rows → IsTimely w.rows moment → IsSafe w.rows moment name request → request ≡ shape
    → e ≡ effect_of w moment name shape → IsRoomPlanned new e p → IsPlanned new moment (effect_of w moment name request) p
batch_planned w new moment name request shape e p same timely safe request_is is planned =
    room_ready w.rows new moment (effect_of w moment name request) e p same timely (suits w moment name request timely safe)
    (is ∙ ap (effect_of w moment name) (sym request_is)) planned
