-- The records of due deadlines always have a place.
use Rattle.std.proofs.Common.{◌≡◌, ◌+◌, ◌*◌, ◌<◌, ◌≤◌, ℕ, ℤ, List, [], ◌∷◌, length, refl, sym, ap, ◌∙◌, subst, inl, inr, arith}
use Rattle.std.proofs.lemmas.Bool.{cases_lt}
use Rattle.std.proofs.lemmas.List.{length-map}
use Rattle.names_realms.specs.declared.states.State.{State}
use Rattle.names_realms.specs.declared.states.State.TheVariants.{Active, Finalizing, Finalized}
use Rattle.inclusion_graph.specs.declared.edge.Edge.{Edge}
use Rattle.invocations.specs.declared.invocation.Invocation.{Invocation}
use Rattle.invocations.specs.Rows.{states_of}
use Rattle.invocation_world.specs.Advancing.{CarriesOut}
use Rattle.invocation_world.specs.Settling.{SettlesRows}
use Rattle.invocation_world.specs.Turns.{active_count}
use Rattle.invocation_world.proofs.CodeFacts.{active_le}
use Rattle.invocation_world.proofs.ExistFacts.{fewer_left}
use Rattle.invocation_world.proofs.SettleFacts.{active_before}
use Rattle.recorded_calls.specs.Commands.{tick_length}
use Rattle.call_forms.specs.declared.asked.Asked.{Asked}
use Rattle.call_forms.specs.declared.forms.Answer.{Answer}
use Rattle.call_forms.specs.declared.forms.Standin.TheVariants.{Unavailable, Memory, Spent}
use Rattle.call_forms.specs.declared.forms.Told.{Told}
use Rattle.call_forms.specs.declared.forms.Told.TheVariants.{Made, Standin as Instead}
use Rattle.service_core.specs.RequestDemands.Settings.{Settings}
use Rattle.service_core.specs.RequestDemands.Understood.{length_for}
use Rattle.service_effects.specs.declared.effect.Effect.{Effect}
use Rattle.service_effects.specs.declared.effect.Effect.TheVariants as does
use Rattle.service_effects.specs.Effects.{Makes}
use Rattle.service_effects.specs.Service.{ServiceWorld, empty_service, recorded}
use Rattle.service_effects.specs.Storing.{IsStorable, bytes_of, most_stored, stored_due}
use Rattle.service_effects.proofs.StoringLaws.{storable_fits}
use Rattle.service_core.specs.History.{DoesNoMore, Entry, IsLegal, Tells}
use Rattle.service_core.specs.Service.{CatchesUp}
use Rattle.service_core.specs.Step.{IsTold, effect_for, performed, refused, repeated}
use Rattle.service_laws.specs.Laws.{TicksFit}
use Rattle.service_laws.proofs.EmptyLaws.{empty_is_valid}
use Rattle.service_laws.proofs.StayLaws.{AllStay, acted_stay, advance_stay, advanced_rows, still_within}
use Rattle.service_laws.proofs.ValidLaws.{legal_keeps_valid}

-- A tick for each active invocation takes the records no further than one for each invocation from
-- the limit of requests.
abbrev HasPlace : ServiceWorld → Type 0
HasPlace w =
    w.stored + tick_length * active_count (states_of w.rows.invocations) ≤ most_stored + tick_length * length w.rows.invocations

-- ---- how many rows are active

no_fewer : (old new : List Invocation) → AllStay old new → length old ≤ length new
no_fewer old new stay =
    elim (cases_lt (length new) (length old)) [
      | inl less ↦ absurd (omega (arith, still_within old new (length new) stay less))
      | inr within ↦ omega (arith, within)
    ]

few_active : (states : List State) → active_count states ≤ length states
few_active [] = omega arith
few_active (Active ∷ states) = let few = few_active states in omega (arith, few)
few_active (Finalizing ∷ states) = let few = few_active states in omega (arith, few)
few_active (Finalized ∷ states) = let few = few_active states in omega (arith, few)

settled_le : (moment : ℤ) (edges : List Edge) (old new : List Invocation) → SettlesRows moment edges old new
    → active_count (states_of new) ≤ active_count (states_of old)
settled_le moment edges old new s = active_le (states_of old) (states_of new) (λ p is. active_before moment edges old new s p is)

carried_le : (edges : List Edge) (moment : ℤ) (rows : List Invocation) (ds : List ℤ) (after : List Invocation)
    → CarriesOut edges moment rows ds after → active_count (states_of after) ≤ active_count (states_of rows)
carried_le edges moment rows [] after h = omega (arith, ap (λ (r : List Invocation). active_count (states_of r)) h.1)
carried_le edges moment rows (d ∷ ds) after h =
    let fewer = fewer_left moment d edges rows h.1.0 h.0 h.1.1 in
    let later = carried_le edges moment h.1.0 ds after h.1.2 in
    omega (arith, fewer, later)

-- where a tick is recorded fewer are left
carried_place : (edges : List Edge) (moment : ℤ) (rows : List Invocation) (ds : List ℤ) (after : List Invocation) (stored : ℕ)
    → CarriesOut edges moment rows ds after
    → stored_due ds stored + tick_length * active_count (states_of after) ≤ stored + tick_length * active_count (states_of rows)
carried_place edges moment rows [] after stored h = omega (arith, ap (λ (r : List Invocation). active_count (states_of r)) h.1)
carried_place edges moment rows (d ∷ ds) after stored h =
    let fewer = fewer_left moment d edges rows h.1.0 h.0 h.1.1 in
    let later = carried_le edges moment h.1.0 ds after h.1.2 in
    omega (arith, fewer, later)

-- ---- due deadlines, and requests

due_place : (w : ServiceWorld) (moment : ℤ) (after : ServiceWorld) → CatchesUp w moment after → HasPlace w → HasPlace after
due_place w moment after caught place =
    let a = caught.due.rows in
    let rows_are = ap (λ v. v.invocations) a.after_is ∙ advanced_rows moment a.deadlines a.rows w.rows a.carried in
    let active = ap (λ (r : List Invocation). active_count (states_of r)) rows_are in
    let fewer = carried_place w.rows.inclusions moment w.rows.invocations a.deadlines a.rows w.stored a.carried in
    let longer = no_fewer w.rows.invocations after.rows.invocations (advance_stay moment w.rows after.rows a) in
    omega (arith, place, caught.stored, active, fewer, longer)

-- what is recorded of a request stays within the limit
recorded_place : (w after : ServiceWorld) (bytes : ℕ) → 0 < bytes → IsStorable w.stored bytes → after.stored ≡ w.stored + bytes
    → HasPlace after
recorded_place w after bytes some free stored =
    let fits = storable_fits w.stored bytes free some in
    let few = few_active (states_of after.rows.invocations) in
    let rows = length-map after.rows.invocations (λ (r : Invocation). r.state) in
    omega (arith, fits, few, rows, stored)

acted_place : (w after : ServiceWorld) (moment : ℤ) (effect : Effect) (bytes : ℕ) → 0 < bytes → IsStorable w.stored (bytes_of effect bytes)
    → Makes moment effect (recorded w) (recorded after) → after.stored ≡ w.stored + bytes_of effect bytes → HasPlace w → HasPlace after
acted_place w after moment does.Nothing bytes some free made stored place =
    let fewer = settled_le moment w.rows.inclusions w.rows.invocations after.rows.invocations made.rows.rows in
    let longer = no_fewer w.rows.invocations after.rows.invocations (acted_stay w.rows moment does.Nothing after.rows made.rows) in
    omega (arith, place, stored, fewer, longer)
acted_place w after moment (does.Add row) bytes some free made stored place = recorded_place w after bytes some free stored
acted_place w after moment (does.Update p deadline tags) bytes some free made stored place = recorded_place w after bytes some free stored
acted_place w after moment (does.End p) bytes some free made stored place = recorded_place w after bytes some free stored
acted_place w after moment (does.Include plan) bytes some free made stored place = recorded_place w after bytes some free stored
acted_place w after moment (does.Results batch) bytes some free made stored place = recorded_place w after bytes some free stored
acted_place w after moment (does.Exonerations batch) bytes some free made stored place = recorded_place w after bytes some free stored
acted_place w after moment (does.Artifacts batch) bytes some free made stored place = recorded_place w after bytes some free stored

-- ---- histories

same_place : (w after : ServiceWorld) → after ≡ w → HasPlace w → HasPlace after
same_place w after same place = subst HasPlace (sym same) place

told_place : (s : Settings) (w : ServiceWorld) (moment : ℤ) (asked : Asked) (after : ServiceWorld) (answer : Answer)
    → IsTold s w moment asked after answer → HasPlace w → HasPlace after
told_place s w moment asked after answer (refused r) place = same_place w after r.same place
told_place s w moment asked after answer (repeated r) place = same_place w after r.same place
told_place s w moment asked after answer (performed p) place =
    acted_place w after moment (effect_for s w moment p.caller p.request) (length_for s asked p.caller) (omega arith) p.accepted.store
    p.acts.made p.acts.stored place

no_more_place : (w : ServiceWorld) (moment : ℤ) (after : ServiceWorld) → DoesNoMore w moment after → HasPlace w → HasPlace after
no_more_place w moment after (inl same) place = same_place w after same place
no_more_place w moment after (inr caught) place = due_place w moment after caught place

tells_place : (s : Settings) (w : ServiceWorld) (e : Entry) (told : Told) (after : ServiceWorld) → Tells s w e told after → HasPlace w
    → HasPlace after
tells_place s w e (Made answer) after step place =
    told_place s step.between e.moment e.asked after answer step.judged (due_place w e.moment step.between step.advances place)
tells_place s w e (Instead Memory) after no_more place = no_more_place w e.moment after no_more place
tells_place s w e (Instead Unavailable) after told place = no_more_place w e.moment after told.no_more place
tells_place s w e (Instead Spent) after never place = absurd never

legal_place : (s : Settings) (w : ServiceWorld) (h : List Entry) (v : ServiceWorld) → IsLegal s w h v → HasPlace w → HasPlace v
legal_place s w [] v end place = same_place w v end place
legal_place s w (e ∷ h) v legal place =
    legal_place s legal.0 h v legal.2 (tells_place s w e e.told legal.0 legal.1.tells place)

pub ticks_fit : TicksFit
ticks_fit s h v names legal =
    let few = (legal_keeps_valid s empty_service h v names legal empty_is_valid).sound.rows.table.few in
    omega (arith, few, legal_place s empty_service h v legal (omega arith))
