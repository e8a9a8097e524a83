-- Ids of rows by their places.
use Rattle.std.proofs.Common.{◌≡◌, ℕ, ℤ, List, Some, None, option_map, sym, ap, ◌∙◌, inl, inr}
use Rattle.std.specs.Prelude.{slice_get}
use Rattle.std.proofs.lemmas.Option.{slice_get-map}
use Rattle.inclusion_graph.specs.declared.edge.Edge.{Edge}
use Rattle.invocations.specs.declared.invocation.Invocation.{Invocation}
use Rattle.invocations.specs.Rows.{ended, ids_of}
use Rattle.invocation_world.specs.Settling.{SettlesRows}
use Rattle.invocation_world.proofs.RowFacts.{same_lists}
use Rattle.invocation_world.proofs.SettleFacts.{ended_or_same}

pub id_at : (rows : List Invocation) (p : ℕ) (row : Invocation) → slice_get rows p ≡ Some row → slice_get (ids_of rows) p ≡ Some row.id
id_at rows p row e = slice_get-map (λ (r : Invocation). r.id) rows p ∙ ap (option_map (λ (r : Invocation). r.id)) e

pub id_none : (rows : List Invocation) (p : ℕ) → slice_get rows p ≡ None → slice_get (ids_of rows) p ≡ None
id_none rows p e = slice_get-map (λ (r : Invocation). r.id) rows p ∙ ap (option_map (λ (r : Invocation). r.id)) e

pub id_same : (old new : List Invocation) (p : ℕ) → slice_get new p ≡ slice_get old p → slice_get (ids_of new) p ≡ slice_get (ids_of old) p
id_same old new p same =
    slice_get-map (λ (r : Invocation). r.id) new p ∙ (ap (option_map (λ (r : Invocation). r.id)) same
    ∙ sym (slice_get-map (λ (r : Invocation). r.id) old p))

-- ids stay, whatever settles
pub ids_settled : (moment : ℤ) (edges : List Edge) (old new : List Invocation) → SettlesRows moment edges old new → ids_of new ≡ ids_of old
ids_settled moment edges old new s = same_lists (ids_of new) (ids_of old)
    (λ p. elim (ended_or_same moment edges old new s p) [
      | inl h ↦ id_at new p (ended moment h.row) h.stands ∙ sym (id_at old p h.row h.stood)
      | inr same ↦ id_same old new p same.1
    ])
