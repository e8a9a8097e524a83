-- Realms stay: what a step leaves at a place stood there before, in the same realm.
use Rattle.std.proofs.Common.{◌≡◌, ℕ, ℤ, List, [], ◌∷◌, Some, inl, inr, refl, sym, ap, ◌∙◌, subst}
use Rattle.std.specs.List.{slice_get}
use Rattle.std.proofs.lemmas.Option.{same_Some}
use Rattle.inclusion_graph.specs.declared.edge.Edge.{Edge}
use Rattle.policy_checks.specs.declared.permission.Permission.{Permission}
use Rattle.policy_tables.specs.declared.tables.PolicyTables.{PolicyTables}
use Rattle.permissions.specs.Allows.{Allows}
use Rattle.invocations.specs.declared.invocation.Invocation.{Invocation}
use Rattle.invocations.specs.Rows.{begun, ended}
use Rattle.invocation_world.specs.World.{World}
use Rattle.invocation_world.specs.Settling.{SettlesRows}
use Rattle.invocation_world.specs.Advancing.{Advances, CarriesOut, all_begun}
use Rattle.invocation_world.proofs.SettleFacts.{ended_or_same}
use Rattle.invocation_world.proofs.ValidFacts.{all_begin}
use Rattle.query_pages.specs.Unseen.{IsGranted}
use Rattle.service_laws.proofs.StayLaws.{advanced_rows}

abbrev pub AllStood : List Invocation → List Invocation → Type 0
AllStood old new =
    (p : ℕ) (row : Invocation) → slice_get new p ≡ Some row
    → (before : Invocation) × (slice_get old p ≡ Some before) × (before.realm ≡ row.realm)

pub all_stood : (rows : List Invocation) → AllStood rows rows
all_stood rows p row e = (row, e, refl)

stood_both : (a b c : List Invocation) → AllStood a b → AllStood b c → AllStood a c
stood_both a b c first second p row e =
    let two = second p row e in
    let one = first p two.0 two.1 in
    (one.0, one.1, one.2 ∙ two.2)

pub settled_stood : (moment : ℤ) (edges : List Edge) (old new : List Invocation) → SettlesRows moment edges old new → AllStood old new
settled_stood moment edges old new s p row e =
    elim (ended_or_same moment edges old new s p) [
      | inl was ↦ (was.row, was.stood, ap (λ (r : Invocation). r.realm) (same_Some (ended moment was.row) row (sym was.stands ∙ e)))
      | inr same ↦ (row, sym same.1 ∙ e, refl)
    ]

begun_stood : (d : ℤ) (rows : List Invocation) → AllStood rows (all_begun d rows)
begun_stood d rows p row e =
    elim (all_begin d rows p) [
      | inl same ↦ (row, sym same ∙ e, refl)
      | inr b ↦ (b.row, b.stood, ap (λ (r : Invocation). r.realm) (same_Some (begun d b.row) row (sym b.stands ∙ e)))
    ]

carried_stood : (edges : List Edge) (moment : ℤ) (rows : List Invocation) (ds : List ℤ) (after : List Invocation)
    → CarriesOut edges moment rows ds after → AllStood rows after
carried_stood edges moment rows [] after h = subst (AllStood rows) (sym h.1) (all_stood rows)
carried_stood edges moment rows (d ∷ ds) after h =
    stood_both rows (all_begun d rows) after (begun_stood d rows)
    (stood_both (all_begun d rows) h.1.0 after (settled_stood d edges (all_begun d rows) h.1.0 h.1.1)
    (carried_stood edges moment h.1.0 ds after h.1.2))

pub advanced_stood : (moment : ℤ) (w after : World) → Advances w moment after → AllStood w.invocations after.invocations
advanced_stood moment w after h =
    subst (AllStood w.invocations)
    (sym (ap (λ (v : World). v.invocations) h.after_is ∙ advanced_rows moment h.deadlines h.rows w h.carried))
    (carried_stood w.inclusions moment w.invocations h.deadlines h.rows h.carried)

-- what is granted afterwards was granted before
pub granted_before : (policy : PolicyTables) (caller : ℕ) (permission : Permission) (old new : List Invocation) (p : ℕ) → AllStood old new
    → IsGranted policy caller permission new p → IsGranted policy caller permission old p
granted_before policy caller permission old new p stood h =
    let before = stood p h.0 h.1 in
    (before.0, before.1, subst (λ (realm : List ℕ). Allows policy caller permission realm) (sym before.2) h.2)
