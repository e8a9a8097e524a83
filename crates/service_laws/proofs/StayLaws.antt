-- Rows that stay the same invocations.
use Rattle.std.proofs.Common.{◌≡◌, ◌<◌, ℕ, zero, suc, ℤ, List, [], ◌∷◌, ◌++◌, Option, Some, None, inl, inr, refl, sym, ap, ◌∙◌, subst, length, arith}
use Rattle.std.specs.List.{slice_get}
use Rattle.std.proofs.lemmas.Bool.{cases_Bool, cases_eq, cond-false, cond-true}
use Rattle.std.proofs.lemmas.Option.{same_Some, slice_get_within}
use Rattle.names_realms.specs.declared.pairs.Pair.{Pair}
use Rattle.inclusion_graph.specs.declared.edge.Edge.{Edge}
use Rattle.inclusion_graph.specs.Edges.{edges_from}
use Rattle.invocations.specs.declared.invocation.Invocation.{Invocation}
use Rattle.invocations.specs.Rows.{ids_of, begun, ended, with_changed}
use Rattle.invocations.proofs.RowLemmas.{at_end, at_front}
use Rattle.invocation_world.specs.World.{World, IsValid}
use Rattle.invocation_world.specs.Settling.{SettlesRows}
use Rattle.invocation_world.specs.Advancing.{Advances, CarriesOut, after_deadlines, all_begun}
use Rattle.invocation_world.specs.Changes.{is_update, updated, with_row_updated}
use Rattle.invocation_world.proofs.RowFacts.{changed_here, changed_other}
use Rattle.invocation_world.proofs.SettleFacts.{ended_or_same}
use Rattle.invocation_world.proofs.ValidFacts.{all_begin}
use Rattle.service_core.specs.RequestDemands.Settings.{Settings}
use Rattle.service_core.specs.RequestRules.Named.{place_named}
use Rattle.service_core.proofs.RequestRules.PlaceLaws.{place_holds, placed}
use Rattle.service_effects.proofs.IdFacts.{id_at}
use Rattle.service_core.proofs.RequestEffects.PlaceFacts.{row_placed}
use Rattle.service_effects.specs.declared.effect.Effect.{Effect}
use Rattle.service_effects.specs.declared.effect.Effect.TheVariants as does
use Rattle.service_effects.specs.Effects.{Does, with_effect}
use Rattle.service_effects.specs.Service.{Recorded, ServiceWorld, recorded}
use Rattle.service_core.specs.History.{Entry, Leads}
use Rattle.service_laws.specs.Laws.{IsSameInvocation, RowsStay, ShownIsNamed}
use Rattle.service_laws.proofs.ChangeLaws.{edges_keep}
use Rattle.service_laws.proofs.MoveLaws.{IsMoved, Moves, tells_moves}

pub there_at : {A : Type 0} (xs : List A) (i : ℕ) → i < length xs → (x : A) × (slice_get xs i ≡ Some x)
there_at [] i lt = absurd (omega (arith, lt))
there_at (x ∷ xs) zero lt = (x, refl)
there_at (x ∷ xs) (suc i) lt = there_at xs i (omega (arith, lt))

-- each row stands at its place later, the same invocation
abbrev pub AllStay : List Invocation → List Invocation → Type 0
AllStay old new =
    (p : ℕ) (row : Invocation) → slice_get old p ≡ Some row
    → (later : Invocation) × (slice_get new p ≡ Some later) × IsSameInvocation row later

-- so what was a place is one
pub still_within : (old new : List Invocation) (p : ℕ) → AllStay old new → p < length old → p < length new
still_within old new p stay low =
    let row = there_at old p low in
    let later = stay p row.0 row.1 in
    slice_get_within new p later.0 later.1

-- and has its id
pub same_id : (old new : List Invocation) (p : ℕ) → AllStay old new → p < length old → slice_get (ids_of new) p ≡ slice_get (ids_of old) p
same_id old new p stay low =
    let row = there_at old p low in
    let later = stay p row.0 row.1 in
    id_at new p later.0 later.1 ∙ (ap (λ (id : List ℕ). Some id) later.2.id ∙ sym (id_at old p row.0 row.1))

itself : (row : Invocation) → IsSameInvocation row row
itself row = record { id = refl; realm = refl; creator = refl; created = refl }

pub all_stay : (rows : List Invocation) → AllStay rows rows
all_stay rows p row e = (row, e, itself row)

pub stay_same : (old new : List Invocation) → new ≡ old → AllStay old new
stay_same old new same = subst (AllStay old) (sym same) (all_stay old)

pub stay_both : (a b c : List Invocation) → AllStay a b → AllStay b c → AllStay a c
stay_both a b c first second p row e =
    let one = first p row e in
    let two = second p one.0 one.1 in (
      two.0,
      two.1,
      record {
        id = two.2.id ∙ one.2.id;
        realm = two.2.realm ∙ one.2.realm;
        creator = two.2.creator ∙ one.2.creator;
        created = two.2.created ∙ one.2.created;
      },
    )

pub settled_stay : (moment : ℤ) (edges : List Edge) (old new : List Invocation) → SettlesRows moment edges old new → AllStay old new
settled_stay moment edges old new s p row e =
    elim (ended_or_same moment edges old new s p) [
      | inl was ↦ (
        ended moment row,
        subst (λ (r : Invocation). slice_get new p ≡ Some (ended moment r)) (same_Some was.row row (sym was.stood ∙ e)) was.stands,
        record { id = refl; realm = refl; creator = refl; created = refl },
      )
      | inr same ↦ (row, same.1 ∙ e, itself row)
    ]

begun_stay : (d : ℤ) (rows : List Invocation) → AllStay rows (all_begun d rows)
begun_stay d rows p row e =
    elim (all_begin d rows p) [
      | inl same ↦ (row, same ∙ e, itself row)
      | inr b ↦ (
        begun d row,
        subst (λ (r : Invocation). slice_get (all_begun d rows) p ≡ Some (begun d r)) (same_Some b.row row (sym b.stood ∙ e)) b.stands,
        record { id = refl; realm = refl; creator = refl; created = refl },
      )
    ]

carried_stay : (edges : List Edge) (moment : ℤ) (rows : List Invocation) (ds : List ℤ) (after : List Invocation)
    → CarriesOut edges moment rows ds after → AllStay rows after
carried_stay edges moment rows [] after h = stay_same rows after h.1
carried_stay edges moment rows (d ∷ ds) after h =
    stay_both rows (all_begun d rows) after (begun_stay d rows)
    (stay_both (all_begun d rows) h.1.0 after (settled_stay d edges (all_begun d rows) h.1.0 h.1.1)
    (carried_stay edges moment h.1.0 ds after h.1.2))

-- the rows after due deadlines
pub advanced_rows : (moment : ℤ) (ds : List ℤ) (rows : List Invocation) (w : World)
    → CarriesOut w.inclusions moment w.invocations ds rows → (after_deadlines moment ds rows w).invocations ≡ rows
advanced_rows moment [] rows w h = sym h.1
advanced_rows moment (d ∷ ds) rows w h = refl

pub advance_stay : (moment : ℤ) (w after : World) → Advances w moment after → AllStay w.invocations after.invocations
advance_stay moment w after h =
    subst (AllStay w.invocations)
    (sym (ap (λ (v : World). v.invocations) h.after_is ∙ advanced_rows moment h.deadlines h.rows w h.carried))
    (carried_stay w.inclusions moment w.invocations h.deadlines h.rows h.carried)

-- one row is changed, and stays the same invocation
abbrev IsKept : (Invocation → Invocation) → Type 0
IsKept change = (row : Invocation) → IsSameInvocation row (change row)

changed_stay : (change : Invocation → Invocation) → IsKept change → (rows : List Invocation) (p : ℕ)
    → AllStay rows (with_changed change rows p)
changed_stay change kept rows p q row e =
    elim (cases_eq q p) [
      | inl here ↦
          let stood : slice_get rows p ≡ Some row = subst (λ (k : ℕ). slice_get rows k ≡ Some row) here e in (
            change row,
            subst (λ (k : ℕ). slice_get (with_changed change rows p) k ≡ Some (change row)) (sym here) (changed_here change rows p row stood),
            kept row,
          )
      | inr other ↦ (row, changed_other change rows p q other ∙ e, itself row)
    ]

update_kept : (deadline : Option ℤ) (tags : Option (List Pair)) → IsKept (updated deadline tags)
update_kept deadline tags row = record { id = refl; realm = refl; creator = refl; created = refl }

begun_kept : (moment : ℤ) → IsKept (begun moment)
begun_kept moment row = record { id = refl; realm = refl; creator = refl; created = refl }

added_stay : (rows : List Invocation) (new : Invocation) → AllStay rows (rows ++ new ∷ [])
added_stay rows new p row e = (row, at_front rows new row p e, itself row)

update_stay : (moment : ℤ) (p : ℕ) (deadline : Option ℤ) (tags : Option (List Pair)) (w : World) (o : Option Invocation)
    → AllStay w.invocations (with_row_updated moment p deadline tags w o).invocations
update_stay moment p deadline tags w None = all_stay w.invocations
update_stay moment p deadline tags w (Some row) =
    let after : World = record {
      invocations = with_changed (updated deadline tags) w.invocations p;
      inclusions = w.inclusions;
      last = moment;
    } in
    let Leaves : World → Type 0 = λ v. AllStay w.invocations v.invocations in
    elim (cases_Bool (is_update deadline tags row)) [
      | inl yes_ ↦ subst Leaves (sym (cond-true (is_update deadline tags row) after w yes_))
          (changed_stay (updated deadline tags) (update_kept deadline tags) w.invocations p)
      | inr no_ ↦ subst Leaves (sym (cond-false (is_update deadline tags row) after w no_)) (all_stay w.invocations)
    ]

effect_stay : (w : World) (moment : ℤ) (effect : Effect) → AllStay w.invocations (with_effect moment effect w).invocations
effect_stay w moment does.Nothing = all_stay w.invocations
effect_stay w moment (does.Add row) = added_stay w.invocations row
effect_stay w moment (does.Update place deadline tags) = update_stay moment place deadline tags w (slice_get w.invocations place)
effect_stay w moment (does.End place) = changed_stay (begun moment) (begun_kept moment) w.invocations place
effect_stay w moment (does.Include plan) = edges_keep AllStay moment w (edges_from plan.from plan.targets) (all_stay w.invocations)
effect_stay w moment (does.Results batch) = all_stay w.invocations
effect_stay w moment (does.Exonerations batch) = all_stay w.invocations
effect_stay w moment (does.Artifacts batch) = all_stay w.invocations

pub acted_stay : (w : World) (moment : ℤ) (effect : Effect) (after : World) → Does moment effect w after
    → AllStay w.invocations after.invocations
acted_stay w moment effect after acts =
    let mid = with_effect moment effect w in
    stay_both w.invocations mid.invocations after.invocations (effect_stay w moment effect)
    (settled_stay moment mid.inclusions mid.invocations after.invocations acts.rows)

moved_stay : (s : Settings) (w : Recorded) (moment : ℤ) (after : Recorded) → IsMoved s w moment after
    → AllStay w.rows.invocations after.rows.invocations
moved_stay s w moment after (inl same) =
    stay_same w.rows.invocations after.rows.invocations (ap (λ (v : Recorded). v.rows.invocations) same)
moved_stay s w moment after (inr done) = acted_stay w.rows moment done.effect after.rows done.made.rows

moves_stay : (s : Settings) (w : Recorded) (moment : ℤ) (after : Recorded) → Moves s w moment after
    → AllStay w.rows.invocations after.rows.invocations
moves_stay s w moment after h =
    stay_both w.rows.invocations h.between.rows.invocations after.rows.invocations (advance_stay moment w.rows h.between.rows h.due.rows)
    (moved_stay s h.between moment after h.moved)

pub leads_stay : (s : Settings) (w : ServiceWorld) (e : Entry) (after : ServiceWorld) → Leads s w e after
    → AllStay w.rows.invocations after.rows.invocations
leads_stay s w e after leads =
    elim (tells_moves s w e e.told after leads.tells) [
      | inl same ↦ stay_same w.rows.invocations after.rows.invocations (ap (λ (v : ServiceWorld). v.rows.invocations) same)
      | inr moves ↦ moves_stay s (recorded w) e.moment (recorded after) moves
    ]

pub rows_stay : RowsStay
rows_stay s w [] v end = stay_same w.rows.invocations v.rows.invocations (ap (λ (u : ServiceWorld). u.rows.invocations) end)
rows_stay s w (e ∷ h) v legal =
    stay_both w.rows.invocations legal.0.rows.invocations v.rows.invocations (leads_stay s w e legal.0 legal.1)
    (rows_stay s legal.0 h v legal.2)

-- what stands at a place is found there by its id, in a valid world
found_there : (after : World) (place : ℕ) (row : Invocation) (id : List ℕ) → IsValid after → slice_get after.invocations place ≡ Some row
    → row.id ≡ id → place_named after.invocations id ≡ Some place
found_there after place row id valid here is =
    placed after.invocations id place valid.table
    (id_at after.invocations place row here ∙ ap (λ (x : List ℕ). Some x) is)

pub shown_is_named : ShownIsNamed
shown_is_named w after moment effect valid acts =
    let stay = acted_stay w moment effect after acts in
    record {
      named = λ id place at.
          let row = row_placed w.invocations id place at in
          let later = stay place row.0 row.1 in
          let row_id : row.0.id ≡ id =
          same_Some row.0.id id (sym (id_at w.invocations place row.0 row.1) ∙ place_holds id (ids_of w.invocations) place at) in
          found_there after place later.0 id valid later.1 (later.2.id ∙ row_id);
      made = λ row is.
          let added : Does moment (does.Add row) w after = subst (λ (e : Effect). Does moment e w after) is acts in
          let later = settled_stay moment w.inclusions (w.invocations ++ row ∷ []) after.invocations added.rows (length w.invocations) row
          (at_end w.invocations row) in
          found_there after (length w.invocations) later.0 row.id valid later.1 later.2.id;
    }
