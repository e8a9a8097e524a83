-- Rows become final in time.
use Rattle.std.proofs.Common.{◌≡◌, ◌⊎◌, ℕ, zero, suc, ℤ, ◌≤ℤ◌, ◌<ℤ◌, List, [], ◌∷◌, ◌++◌, Some, inl, inr, refl, sym, ap, ◌∙◌, subst, arith}
use Rattle.std.specs.List.{slice_get}
use Rattle.std.proofs.lemmas.Int.{ints, by_lt_z}
use Rattle.std.proofs.lemmas.Option.{none-some, same_Some}
use Rattle.names_realms.specs.declared.states.State.{State}
use Rattle.names_realms.specs.declared.states.State.TheVariants.{Active, Finalizing, Finalized}
use Rattle.inclusion_graph.specs.declared.edge.Edge.{Edge}
use Rattle.invocations.specs.declared.invocation.Invocation.{Invocation}
use Rattle.invocations.specs.Due.{IsDue}
use Rattle.invocations.specs.Rows.{IsInState, begun, ended, with_changed}
use Rattle.invocations.proofs.RowLemmas.{at_front, at_place}
use Rattle.call_forms.specs.declared.forms.Answer.{Answer}
use Rattle.call_forms.specs.declared.forms.Told.{Told}
use Rattle.call_forms.specs.declared.forms.Told.TheVariants.{Made, Standin as Instead}
use Rattle.invocation_world.specs.World.{World, IsCallMoment, IsRow, IsStage, IsValid}
use Rattle.invocation_world.specs.Settling.{SettlesRows}
use Rattle.invocation_world.specs.Advancing.{Advances, CarriesOut, IsLeast, all_begun}
use Rattle.invocation_world.specs.Changes.{updated}
use Rattle.invocation_world.specs.Laws.{KeepsFinal}
use Rattle.invocation_world.proofs.AdvanceFacts.{least_row}
use Rattle.invocation_world.proofs.BegunFacts.{all_begun_at, due_begun}
use Rattle.invocation_world.proofs.RowFacts.{active≢finalizing, active≢finalized, finalizing≢finalized, all_at, apart, changed_other, state_is}
use Rattle.invocation_world.proofs.SettleFacts.{ended_or_same, row_stays}
use Rattle.invocation_world.proofs.ValidFacts.{all_begin, valid_settled}
use Rattle.service_core.specs.RequestDemands.Settings.{Settings, HasNames}
use Rattle.service_laws.specs.Finality.{CarriesInTime, EndsInTime, IsInTime, ToldInTime}
use Rattle.service_effects.specs.declared.effect.Effect.{Effect}
use Rattle.service_effects.specs.Effects.{with_effect}
use Rattle.service_effects.specs.Fitting.{IsTimely, Suits}
use Rattle.service_effects.specs.Service.{Recorded, ServiceWorld, recorded}
use Rattle.service_laws.specs.Validity as services
use Rattle.service_core.specs.Step.{Step}
use Rattle.service_core.specs.History.{Entry, Leads, Tells}
use Rattle.service_laws.specs.Laws.{FinalInTime}
use Rattle.service_laws.proofs.ChangeLaws.{effect_keeps}
use Rattle.service_laws.proofs.StayLaws.{advanced_rows}
use Rattle.service_laws.proofs.MoveLaws.{IsMoved, Moves, tells_moves, told_moved}
use Rattle.service_core.proofs.HistoryLaws.{advanced_timely}
use Rattle.service_laws.proofs.ValidLaws.{leads_valid}
use Rattle.service_laws.proofs.FinalLaws.{moved_final}

-- the rows that a change made final got its time as their end
abbrev AreEndedAt : ℤ → List Invocation → List Invocation → Type 0
AreEndedAt time old new =
    (p : ℕ) (row : Invocation) → slice_get new p ≡ Some row → row.state ≡ Finalized → (¬ IsInState Finalized old p)
    → row.finished ≡ Some time

-- where what is final in the middle was so at first, only settling made rows final
settled_at : (time : ℤ) (edges : List Edge) (old mid new : List Invocation)
    → ((p : ℕ) (row : Invocation) → slice_get mid p ≡ Some row → row.state ≡ Finalized → IsInState Finalized old p)
    → SettlesRows time edges mid new → AreEndedAt time old new
settled_at time edges old mid new was s p row e is not =
    elim (ended_or_same time edges mid new s p) [
      | inl h ↦ ap (λ (r : Invocation). r.finished) (same_Some row (ended time h.row) (sym e ∙ h.stands))
      | inr same ↦ absurd (not (was p row (sym same.1 ∙ e) is))
    ]

-- a row that was finalizing stays as it is, or it is ended at this time
abbrev AreKept : ℤ → List Invocation → List Invocation → Type 0
AreKept time old new =
    (p : ℕ) (row : Invocation) → slice_get old p ≡ Some row → row.state ≡ Finalizing
    → (slice_get new p ≡ Some row) ⊎ (slice_get new p ≡ Some (ended time row))

abbrev WaitingStay : List Invocation → List Invocation → Type 0
WaitingStay old new =
    (p : ℕ) (row : Invocation) → slice_get old p ≡ Some row → row.state ≡ Finalizing → slice_get new p ≡ Some row

settled_kept : (time : ℤ) (edges : List Edge) (old mid new : List Invocation) → WaitingStay old mid → SettlesRows time edges mid new
    → AreKept time old new
settled_kept time edges old mid new stay s p row e is =
    elim (ended_or_same time edges mid new s p) [
      | inl h ↦ inr (subst (λ (r : Invocation). slice_get new p ≡ Some (ended time r))
          (same_Some h.row row (sym h.stood ∙ stay p row e is)) h.stands)
      | inr same ↦ inl (same.1 ∙ stay p row e is)
    ]

-- ---- deadlines

begun_stays_waiting : (d : ℤ) (rows : List Invocation) → WaitingStay rows (all_begun d rows)
begun_stays_waiting d rows p row e is =
    elim (all_begin d rows p) [
      | inl same ↦ same ∙ e
      | inr b ↦
          let no : Active ≡ Finalizing =
          sym b.active ∙ (ap (λ (r : Invocation). r.state) (same_Some b.row row (sym b.stood ∙ e)) ∙ is) in
          absurd (active≢finalizing no)
    ]

begun_was_final : (d : ℤ) (rows : List Invocation) (p : ℕ) (row : Invocation) → slice_get (all_begun d rows) p ≡ Some row
    → row.state ≡ Finalized → IsInState Finalized rows p
begun_was_final d rows p row e is =
    elim (all_begin d rows p) [
      | inl same ↦ state_is Finalized rows p row (sym same ∙ e) is
      | inr b ↦
          let no : Finalizing ≡ Finalized = ap (λ (r : Invocation). r.state) (same_Some (begun d b.row) row (sym b.stands ∙ e)) ∙ is in
          absurd (finalizing≢finalized no)
    ]

begun_stays_final : (d : ℤ) (rows : List Invocation) (p : ℕ) (row : Invocation) → slice_get rows p ≡ Some row
    → row.state ≡ Finalized → slice_get (all_begun d rows) p ≡ Some row
begun_stays_final d rows p row e is =
    elim (all_begin d rows p) [
      | inl same ↦ same ∙ e
      | inr b ↦
          let no : Active ≡ Finalized =
          sym b.active ∙ (ap (λ (r : Invocation). r.state) (same_Some b.row row (sym b.stood ∙ e)) ∙ is) in
          absurd (active≢finalized no)
    ]

-- once all rows of the least deadline are begun, each deadline of an active row is a later one
ahead_of_least : (moment d : ℤ) (rows : List Invocation) → IsLeast rows moment d → d ≤ℤ moment → (p : ℕ) (row : Invocation)
    → slice_get (all_begun d rows) p ≡ Some row → row.state ≡ Active → d <ℤ row.deadline
ahead_of_least moment d rows least le p row e active =
    elim (all_begin d rows p) [
      | inl same ↦
          let stood : slice_get rows p ≡ Some row = sym same ∙ e in
          by_lt_z d row.deadline (λ lt. lt)
          (λ not_later.
          let low : d ≤ℤ row.deadline = all_at (λ r. IsDue moment r → d ≤ℤ r.deadline) rows p row least.least stood (active, omega (arith, ints, le, not_later)) in
          let is : row.deadline ≡ d = omega (arith, ints, low, not_later) in
          let begins : row ≡ begun d row = same_Some row (begun d row)
          (sym e ∙ all_begun_at d rows p row stood ∙ ap (λ (r : Invocation). Some r) (due_begun d row active is)) in
          let no : Active ≡ Finalizing = sym active ∙ ap (λ (r : Invocation). r.state) begins in
          absurd (active≢finalizing no))
      | inr b ↦
          let no : Active ≡ Finalizing = sym active ∙ ap (λ (r : Invocation). r.state) (same_Some row (begun d b.row) (sym e ∙ b.stands)) in
          absurd (active≢finalizing no)
    ]

active_deadline : (last : ℤ) (row : Invocation) → row.state ≡ Active → IsRow last row → last <ℤ row.deadline
active_deadline last row active is =
    (subst (λ (s : State). IsStage last s row.deadline row.started row.finished) active is.stage).0

-- the rows of a valid world are those of one once the least deadline that is due was carried out
least_valid : (edges : List Edge) (last moment d : ℤ) (rows between : List Invocation)
    → IsValid (record { invocations = rows; inclusions = edges; last = last }) → IsCallMoment moment → IsLeast rows moment d
    → SettlesRows d edges (all_begun d rows) between → IsValid (record { invocations = between; inclusions = edges; last = d })
least_valid edges last moment d rows between valid call least s =
    let first = least_row rows moment d least in
    let is = all_at (IsRow last) rows first.place first.row valid.rows first.stands in
    let due = active_deadline last first.row first.due.0 is in
    let le : d ≤ℤ moment = omega (arith, ints, first.due.1, first.deadline) in
    let from : last ≤ℤ d = omega (arith, ints, due, first.deadline) in
    let call_d : IsCallMoment d = (omega (arith, ints, is.deadline.0, first.deadline), omega (arith, ints, le, call.1)) in
    valid_settled last d edges rows (all_begun d rows) between valid call_d from (all_begin d rows)
    (ahead_of_least moment d rows least le) s

deadline_in_time : (edges : List Edge) (d : ℤ) (rows between : List Invocation)
    → IsValid (record { invocations = between; inclusions = edges; last = d }) → SettlesRows d edges (all_begun d rows) between
    → EndsInTime edges d rows between
deadline_in_time edges d rows between valid s = record {
  kept = settled_kept d edges rows (all_begun d rows) between (begun_stays_waiting d rows) s;
  waiting = valid.waiting;
  ended = valid.ended;
  in_time = settled_at d edges rows (all_begun d rows) between (begun_was_final d rows) s;
  stays = λ p row e is.
      row_stays d edges (all_begun d rows) between s p row (begun_stays_final d rows p row e is)
      (λ other. finalizing≢finalized (sym other ∙ is));
}

carried_in_time : (edges : List Edge) (last moment : ℤ) (rows : List Invocation) (ds : List ℤ) (after : List Invocation)
    → IsValid (record { invocations = rows; inclusions = edges; last = last }) → IsCallMoment moment
    → CarriesOut edges moment rows ds after → CarriesInTime edges moment ds rows after
carried_in_time edges last moment rows [] after valid call h = h
carried_in_time edges last moment rows (d ∷ ds) after valid call h =
    let right = least_valid edges last moment d rows h.1.0 valid call h.0 h.1.1 in
    (h.0, (h.1.0, deadline_in_time edges d rows h.1.0 right h.1.1, carried_in_time edges d moment h.1.0 ds after right call h.1.2))

advanced_in_time : (moment : ℤ) (w after : World) → IsValid w → IsCallMoment moment → (h : Advances w moment after)
    → CarriesInTime w.inclusions moment h.deadlines w.invocations after.invocations
advanced_in_time moment w after valid call h =
    subst (CarriesInTime w.inclusions moment h.deadlines w.invocations)
    (sym (ap (λ (v : World). v.invocations) h.after_is ∙ advanced_rows moment h.deadlines h.rows w h.carried))
    (carried_in_time w.inclusions w.last moment w.invocations h.deadlines h.rows valid call h.carried)

-- ---- requests

-- what a change makes final was so before
abbrev WasFinal : List Invocation → List Invocation → Type 0
WasFinal old new = (p : ℕ) (row : Invocation) → slice_get new p ≡ Some row → row.state ≡ Finalized → IsInState Finalized old p

all_was : (rows : List Invocation) → WasFinal rows rows
all_was rows p row e is = state_is Finalized rows p row e is

changed_was : (change : Invocation → Invocation) → ((row : Invocation) → (change row).state ≡ Finalized → row.state ≡ Finalized)
    → (rows : List Invocation) (p : ℕ) → WasFinal rows (with_changed change rows p)
changed_was change was [] p q row e is = absurd (none-some row e)
changed_was change was (x ∷ rows) zero zero row e is =
    state_is Finalized (x ∷ rows) zero x refl (was x (ap (λ (r : Invocation). r.state) (same_Some (change x) row e) ∙ is))
changed_was change was (x ∷ rows) zero (suc q) row e is = state_is Finalized (x ∷ rows) (suc q) row e is
changed_was change was (x ∷ rows) (suc p) zero row e is = state_is Finalized (x ∷ rows) zero row e is
changed_was change was (x ∷ rows) (suc p) (suc q) row e is = changed_was change was rows p q row e is

added_was : (rows : List Invocation) (new : Invocation) → new.state ≡ Active → WasFinal rows (rows ++ new ∷ [])
added_was rows new active p row e is =
    elim (at_place rows new row p e) [
      | inl here ↦ state_is Finalized rows p row here is
      | inr last ↦
          let no : Active ≡ Finalized = sym active ∙ (ap (λ (r : Invocation). r.state) last.1 ∙ is) in
          absurd (active≢finalized no)
    ]

effect_was : (w : World) (moment : ℤ) (effect : Effect) → Suits w moment effect
    → WasFinal w.invocations (with_effect moment effect w).invocations
effect_was w moment effect may =
    effect_keeps WasFinal w moment effect may
    (record {
      when_same = all_was w.invocations;
      when_added = added_was w.invocations;
      when_updated = λ deadline tags p active. changed_was (updated deadline tags) (λ r is. is) w.invocations p;
      when_begun = λ p active. changed_was (begun moment) (λ r is. absurd (finalizing≢finalized is)) w.invocations p;
    })

none_ended : (time : ℤ) (rows : List Invocation) → AreEndedAt time rows rows
none_ended time rows p row e is not = absurd (not (state_is Finalized rows p row e is))

moved_at : (s : Settings) (w : Recorded) (moment : ℤ) (after : Recorded) → HasNames s → IsTimely w.rows moment → IsMoved s w moment after
    → AreEndedAt moment w.rows.invocations after.rows.invocations
moved_at s w moment after names timely (inl same) =
    subst (λ (v : Recorded). AreEndedAt moment w.rows.invocations v.rows.invocations) (sym same) (none_ended moment w.rows.invocations)
moved_at s w moment after names timely (inr done) =
    let mid = with_effect moment done.effect w.rows in
    settled_at moment mid.inclusions w.rows.invocations mid.invocations after.rows.invocations
    (effect_was w.rows moment done.effect (done.suits names timely)) done.made.rows.rows

-- what is changed is an active row, or a new one
all_waiting : (rows : List Invocation) → WaitingStay rows rows
all_waiting rows p row e is = e

changed_waiting : (change : Invocation → Invocation) (rows : List Invocation) (p : ℕ) → IsInState Active rows p
    → WaitingStay rows (with_changed change rows p)
changed_waiting change rows p active q row e is =
    changed_other change rows p q
    (λ same. apart Active Finalizing rows p active≢finalizing active
    (subst (IsInState Finalizing rows) same (state_is Finalizing rows q row e is))) ∙ e

added_waiting : (rows : List Invocation) (new : Invocation) → WaitingStay rows (rows ++ new ∷ [])
added_waiting rows new p row e is = at_front rows new row p e

effect_waiting : (w : World) (moment : ℤ) (effect : Effect) → Suits w moment effect
    → WaitingStay w.invocations (with_effect moment effect w).invocations
effect_waiting w moment effect may =
    effect_keeps WaitingStay w moment effect may
    (record {
      when_same = all_waiting w.invocations;
      when_added = λ new active. added_waiting w.invocations new;
      when_updated = λ deadline tags. changed_waiting (updated deadline tags) w.invocations;
      when_begun = changed_waiting (begun moment) w.invocations;
    })

moved_kept : (s : Settings) (w : Recorded) (moment : ℤ) (after : Recorded) → HasNames s → IsTimely w.rows moment → IsMoved s w moment after
    → AreKept moment w.rows.invocations after.rows.invocations
moved_kept s w moment after names timely (inl same) =
    subst (λ (v : Recorded). AreKept moment w.rows.invocations v.rows.invocations) (sym same) (λ p row e is. inl e)
moved_kept s w moment after names timely (inr done) =
    let mid = with_effect moment done.effect w.rows in
    settled_kept moment mid.inclusions w.rows.invocations mid.invocations after.rows.invocations
    (effect_waiting w.rows moment done.effect (done.suits names timely)) done.made.rows.rows

ends_in_time : (time : ℤ) (w after : World) → IsValid after → KeepsFinal w after → AreKept time w.invocations after.invocations
    → AreEndedAt time w.invocations after.invocations → EndsInTime after.inclusions time w.invocations after.invocations
ends_in_time time w after valid keeps kept at = record {
  kept = kept;
  waiting = valid.waiting;
  ended = valid.ended;
  in_time = at;
  stays = keeps.rows;
}

-- a move, which is a call's or nothing
moves_in_time : (s : Settings) (w : Recorded) (e : Entry) (after : Recorded) → HasNames s → IsValid w.rows → IsCallMoment e.moment
    → w.rows.last ≤ℤ e.moment → IsValid after.rows → Moves s w e.moment after → IsInTime w.rows e after.rows
moves_in_time s w e after names valid call later right h =
    let may = advanced_timely w.rows h.between.rows e.moment valid call later h.due.rows in
    record {
      deadlines = h.due.rows.deadlines;
      between = h.between.rows.invocations;
      due = advanced_in_time e.moment w.rows h.between.rows valid call h.due.rows;
      asked = ends_in_time e.moment h.between.rows after.rows right (moved_final s h.between e.moment after names may h.moved)
          (moved_kept s h.between e.moment after names may h.moved) (moved_at s h.between e.moment after names may h.moved);
    }

-- ---- entries

-- what was answered was moved, and what was told in place of an answer may have been
told_in_time : (w : ServiceWorld) (e : Entry) (told : Told) (after : ServiceWorld) → ((answer : Answer) → told ≡ Made answer → IsInTime w.rows e after.rows)
    → (after ≡ w) ⊎ IsInTime w.rows e after.rows → ToldInTime w e told after
told_in_time w e (Made answer) after made either = made answer refl
told_in_time w e (Instead standin) after made either = either

answered_moves : (s : Settings) (w : ServiceWorld) (e : Entry) (told : Told) (answer : Answer) (after : ServiceWorld)
    → told ≡ Made answer → Tells s w e told after → Moves s (recorded w) e.moment (recorded after)
answered_moves s w e told answer after is tells =
    let step : Step s w e.moment e.asked after answer = subst (λ (t : Told). Tells s w e t after) is tells in
    record {
      between = recorded step.between;
      due = step.advances.due;
      moved = told_moved s step.between e.moment e.asked after answer step.judged;
    }

leads_in_time : (s : Settings) (w : ServiceWorld) (e : Entry) (after : ServiceWorld) → HasNames s → services.IsValid w → Leads s w e after
    → ToldInTime w e e.told after
leads_in_time s w e after names valid leads =
    let right = (leads_valid s w e after names leads valid).sound.rows in
    let in_time : Moves s (recorded w) e.moment (recorded after) → IsInTime w.rows e after.rows =
    moves_in_time s (recorded w) e (recorded after) names valid.sound.rows leads.moment leads.later right in
    told_in_time w e e.told after (λ answer is. in_time (answered_moves s w e e.told answer after is leads.tells))
    (elim (tells_moves s w e e.told after leads.tells) [ inl same ↦ inl same | inr moves ↦ inr (in_time moves) ])

pub final_in_time : FinalInTime
final_in_time s w [] v names valid end = end
final_in_time s w (e ∷ h) v names valid legal = (
  legal.0,
  legal.1,
  leads_in_time s w e legal.0 names valid legal.1,
  final_in_time s legal.0 h v names (leads_valid s w e legal.0 names legal.1 valid) legal.2,
)
