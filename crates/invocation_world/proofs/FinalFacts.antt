-- Rows that are final stay as they are.
use Rattle.std.proofs.Common.{◌≡◌, ℕ, ℤ, cond, List, [], ◌∷◌, length, get_or, Option, Some, refl, sym, ap, ◌∙◌, subst, inl, inr}
use Rattle.std.specs.List.{slice_get}
use Rattle.std.proofs.lemmas.Bool.{cases_Bool, cond-true, cond-false}
use Rattle.std.proofs.lemmas.Option.{slice_get_within, slice_get-get_or}
use Rattle.names_realms.specs.declared.pairs.Pair.{Pair}
use Rattle.names_realms.specs.declared.states.State.{State}
use Rattle.names_realms.specs.declared.states.State.TheVariants.{Active, Finalizing, Finalized}
use Rattle.inclusion_graph.specs.declared.edge.Edge.{Edge}
use Rattle.inclusion_graph.specs.Edges.{edges_from, fresh, targets_of}
use Rattle.inclusion_graph.specs.Walks.{Reaches}
use Rattle.invocations.specs.declared.invocation.Invocation.{Invocation}
use Rattle.invocations.specs.Rows.{IsInState, begun, with_changed}
use Rattle.invocations.proofs.RowLemmas.{at_front}
use Rattle.invocation_world.specs.World.{World, IsValid, with_row}
use Rattle.invocation_world.specs.Advancing.{Advances, CarriesOut, after_deadlines, all_begun}
use Rattle.invocation_world.specs.Changes.{is_update, updated, with_begun, with_edges, with_inclusions, with_moment, with_row_updated, with_update}
use Rattle.invocation_world.specs.Laws.{KeepsFinal}
use Rattle.invocation_world.specs.Settling.{Settles, SettlesRows}
use Rattle.invocation_world.proofs.BegunFacts.{all_begun_at, not_begun}
use Rattle.invocation_world.proofs.ChangeFacts.{edges_all_from, targets_elsewhere}
use Rattle.inclusion_graph.proofs.ReachLaws.{reaches_appended, reaches_join, reaches_split}
use Rattle.invocation_world.proofs.ReachFacts.{reaches_row}
use Rattle.invocation_world.proofs.RowFacts.{row_in, state_is, apart, active≢finalized, finalizing≢finalized, changed_other}
use Rattle.invocation_world.proofs.SettleFacts.{row_stays}

told_final : (w : World) (p q : ℕ) (row : Invocation) (s : State) → IsValid w → IsInState Finalized w.invocations p → Reaches w.inclusions p q
    → slice_get w.invocations q ≡ Some row → row.state ≡ s → IsInState Finalized w.invocations q
told_final w p q row Active valid is walk e so = absurd (valid.ended p is (q, walk, state_is Active w.invocations q row e so))
told_final w p q row Finalizing valid is walk e so =
    let below = valid.waiting q (state_is Finalizing w.invocations q row e so) in
    absurd (valid.ended p is (below.0, reaches_join w.inclusions p q below.0 walk below.1, below.2))
told_final w p q row Finalized valid is walk e so = state_is Finalized w.invocations q row e so

-- in a valid world what a final row reaches is final: there is a row, which isn't active, nor does it wait for one
pub reached_final : (w : World) (p q : ℕ) → IsValid w → IsInState Finalized w.invocations p → Reaches w.inclusions p q
    → IsInState Finalized w.invocations q
reached_final w p q valid is walk =
    let from = row_in Finalized w.invocations p is in
    let within = reaches_row (length w.invocations) w.inclusions p q valid.joined (slice_get_within w.invocations p from.0 from.1) walk in
    let row : Invocation = get_or w.invocations q from.0 in
    told_final w p q row row.state valid is walk (slice_get-get_or w.invocations q from.0 within) refl

abbrev FinalStay : List Invocation → List Invocation → Type 0
FinalStay old new = (p : ℕ) (row : Invocation) → slice_get old p ≡ Some row → row.state ≡ Finalized → slice_get new p ≡ Some row

-- where final rows stay, so do those that a final one reaches
below_final : (w after : World) → FinalStay w.invocations after.invocations → IsValid w → (p q : ℕ) → IsInState Finalized w.invocations p
    → Reaches w.inclusions p q
    → IsInState Finalized w.invocations q × IsInState Finalized after.invocations q
    × (slice_get after.invocations q ≡ slice_get w.invocations q)
below_final w after rows valid p q is walk =
    let final = reached_final w p q valid is walk in
    let row = row_in Finalized w.invocations q final in
    let stays = rows q row.0 row.1 row.2 in
    (final, state_is Finalized after.invocations q row.0 stays row.2, stays ∙ sym row.1)

-- where the inclusions are the same, it is enough that the rows stay
same_inclusions : (w after : World) → after.inclusions ≡ w.inclusions → FinalStay w.invocations after.invocations → KeepsFinal w after
same_inclusions w after same rows = record {
  rows = rows;
  included = λ p is. ap (λ (edges : List Edge). targets_of edges p) same;
  reached = λ p other is.
      (λ h. subst (λ (edges : List Edge). Reaches edges p other) same h, λ h. subst (λ (edges : List Edge). Reaches edges p other) (sym same) h);
  all_final = below_final w after rows;
}

-- a world keeps what is final as itself, and over two changes
pub itself_final : (w : World) → KeepsFinal w w
itself_final w = same_inclusions w w refl (λ p row e is. e)

pub both_final : (a b c : World) → KeepsFinal a b → KeepsFinal b c → KeepsFinal a c
both_final a b c first second =
    let still : (p : ℕ) → IsInState Finalized a.invocations p → IsInState Finalized b.invocations p = λ p is.
    let row = row_in Finalized a.invocations p is in
    state_is Finalized b.invocations p row.0 (first.rows p row.0 row.1 row.2) row.2 in
    let rows : FinalStay a.invocations c.invocations = λ p row e is. second.rows p row (first.rows p row e is) is in
    record {
      rows = rows;
      included = λ p is. second.included p (still p is) ∙ first.included p is;
      reached = λ p other is.
          let one = first.reached p other is in
          let two = second.reached p other (still p is) in
          (λ h. one.0 (two.0 h), λ h. two.1 (one.1 h));
      all_final = below_final a c rows;
    }

settled_final : (moment : ℤ) (edges : List Edge) (old new : List Invocation) → SettlesRows moment edges old new → FinalStay old new
settled_final moment edges old new s = λ p row e is.
    row_stays moment edges old new s p row e (λ other. finalizing≢finalized (sym other ∙ is))

begun_final : (d : ℤ) (rows : List Invocation) → FinalStay rows (all_begun d rows)
begun_final d rows = λ p row e is.
    all_begun_at d rows p row e
    ∙ ap (λ (r : Invocation). Some r) (not_begun d row (λ active due. absurd (active≢finalized (sym active ∙ is))))

carried_final : (edges : List Edge) (moment : ℤ) (rows : List Invocation) (ds : List ℤ) (after : List Invocation)
    → CarriesOut edges moment rows ds after → FinalStay rows after
carried_final edges moment rows [] after h = λ p row e is. subst (λ (rs : List Invocation). slice_get rs p ≡ Some row) (sym h.1) e
carried_final edges moment rows (d ∷ ds) after h = λ p row e is.
    carried_final edges moment h.1.0 ds after h.1.2 p row
    (settled_final d edges (all_begun d rows) h.1.0 h.1.1 p row (begun_final d rows p row e is) is) is

advanced_final : (moment : ℤ) (w after : World) (ds : List ℤ) (rows : List Invocation)
    → CarriesOut w.inclusions moment w.invocations ds rows → after ≡ after_deadlines moment ds rows w → KeepsFinal w after
advanced_final moment w after [] rows h is = subst (KeepsFinal w) (sym is) (itself_final w)
advanced_final moment w after (d ∷ ds) rows h is =
    subst (KeepsFinal w) (sym is)
    (same_inclusions w (after_deadlines moment (d ∷ ds) rows w) refl (carried_final w.inclusions moment w.invocations (d ∷ ds) rows h))

pub advance_final : (moment : ℤ) (w after : World) → Advances w moment after → KeepsFinal w after
advance_final moment w after h = advanced_final moment w after h.deadlines h.rows h.carried h.after_is

pub settling_final : (moment : ℤ) (w after : World) → Settles moment w after → KeepsFinal w after
settling_final moment w after s =
    same_inclusions w after s.inclusions (settled_final moment w.inclusions w.invocations after.invocations s.rows)

-- a final row isn't the active one that is changed
changed_final : (change : Invocation → Invocation) (rows : List Invocation) (p : ℕ) → IsInState Active rows p
    → FinalStay rows (with_changed change rows p)
changed_final change rows p active = λ q row e is.
    changed_other change rows p q
    (λ same. apart Active Finalized rows p active≢finalized active (subst (IsInState Finalized rows) same (state_is Finalized rows q row e is)))
    ∙ e

pub row_final : (w : World) (row : Invocation) → KeepsFinal w (with_row w row)
row_final w row = same_inclusions w (with_row w row) refl (λ p other e is. at_front w.invocations row other p e)

pub moment_final : (moment : ℤ) (w : World) → KeepsFinal w (with_moment moment w)
moment_final moment w = same_inclusions w (with_moment moment w) refl (λ p row e is. e)

pub begin_final : (moment : ℤ) (w : World) (p : ℕ) → IsInState Active w.invocations p → KeepsFinal w (with_begun moment p w)
begin_final moment w p active =
    same_inclusions w (with_begun moment p w) refl (changed_final (begun moment) w.invocations p active)

pub update_final : (moment : ℤ) (w : World) (p : ℕ) (deadline : Option ℤ) (tags : Option (List Pair)) → IsInState Active w.invocations p
    → KeepsFinal w (with_update moment p deadline tags w)
update_final moment w p deadline tags active =
    let here = row_in Active w.invocations p active in
    let moved : World = record {
      invocations = with_changed (updated deadline tags) w.invocations p;
      inclusions = w.inclusions;
      last = moment;
    } in
    let is : with_update moment p deadline tags w ≡ cond (is_update deadline tags here.0) moved w =
    ap (with_row_updated moment p deadline tags w) here.1 in
    elim (cases_Bool (is_update deadline tags here.0)) [
      | inl yes_ ↦ subst (KeepsFinal w) (sym (is ∙ cond-true (is_update deadline tags here.0) moved w yes_))
          (same_inclusions w moved refl (changed_final (updated deadline tags) w.invocations p active))
      | inr no_ ↦ subst (KeepsFinal w) (sym (is ∙ cond-false (is_update deadline tags here.0) moved w no_))
          (itself_final w)
    ]

edges_final : (moment : ℤ) (w : World) (p : ℕ) (ts : List ℕ) → IsValid w → IsInState Active w.invocations p
    → KeepsFinal w (with_edges moment (edges_from p ts) w)
edges_final moment w p [] valid active = itself_final w
edges_final moment w p (t ∷ ts) valid active = record {
  rows = λ q row e is. e;
  included = λ q is. targets_elsewhere w.inclusions p q (t ∷ ts)
      (λ same. apart Active Finalized w.invocations q active≢finalized (subst (IsInState Active w.invocations) same active) is);
  reached = λ q other is. (
    λ h. elim (reaches_split w.inclusions (edges_from p (t ∷ ts)) p (edges_all_from p (t ∷ ts)) q other h) [
      | inl walk ↦ walk
      | inr walk ↦ absurd (valid.ended q is (p, walk, active))
    ],
    λ h. reaches_appended w.inclusions (edges_from p (t ∷ ts)) q other h,
  );
  all_final = below_final w (with_edges moment (edges_from p (t ∷ ts)) w) (λ q row e is. e);
}

pub inclusions_final : (moment : ℤ) (w : World) (p : ℕ) (targets : List ℕ) → IsValid w → IsInState Active w.invocations p
    → KeepsFinal w (with_inclusions moment p targets w)
inclusions_final moment w p targets valid active =
    edges_final moment w p (fresh (targets_of w.inclusions p) targets) valid active
