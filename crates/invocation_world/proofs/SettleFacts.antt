-- What settling does, place by place.
use Rattle.std.proofs.Common.{◌≡◌, ◌≢◌, ◌⊎◌, ℕ, ℤ, List, [], ◌∷◌, ◌++◌, Contains, Some, refl, sym, ◌∙◌, subst, inl, inr, arith}
use Rattle.std.specs.List.{slice_get}
use Rattle.std.proofs.lemmas.Bool.{cases_eq}
use Rattle.std.proofs.lemmas.Option.{same_Some}
use Rattle.std.proofs.lemmas.List.Elements.{Contains-append_cases, Contains-append_left, Contains-append_right, Contains-push}
use Rattle.names_realms.specs.declared.states.State.{State}
use Rattle.names_realms.specs.declared.states.State.TheVariants.{Active, Finalizing, Finalized}
use Rattle.inclusion_graph.specs.declared.edge.Edge.{Edge}
use Rattle.inclusion_graph.proofs.ListLemmas.{in_one}
use Rattle.finaliser.specs.Settling.{ReachesActive}
use Rattle.invocations.specs.declared.invocation.Invocation.{Invocation}
use Rattle.invocations.specs.Rows.{IsInState, begun, ended, states_of, with_changed}
use Rattle.invocation_world.specs.Settling.{AreEnded, SettlesRows}
use Rattle.invocation_world.proofs.RowFacts.{same_lists, held_or_not, state_at, state_is, row_in, same_state, apart, active≢finalizing, active≢finalized, finalizing≢finalized, changed_here, changed_other, changed_same}
use Rattle.invocation_world.proofs.ReachFacts.{reach_over}

-- the row at a place was ended
pub record WasEnded (moment : ℤ) (edges : List Edge) (old new : List Invocation) (p : ℕ) : Type 0 where
  pub row : Invocation
  pub stood : slice_get old p ≡ Some row
  pub state : row.state ≡ Finalizing
  pub alone : ¬ ReachesActive edges (states_of old) p
  pub stands : slice_get new p ≡ Some (ended moment row)

pub ended_or_same : (moment : ℤ) (edges : List Edge) (old new : List Invocation) → (s : SettlesRows moment edges old new) → (p : ℕ)
    → WasEnded moment edges old new p ⊎ ((Contains s.places p → ⊥) × (slice_get new p ≡ slice_get old p))
ended_or_same moment edges old new s p =
    elim (held_or_not s.places p) [
      | inl held ↦
          let told = (s.all p).0 held in
          let row = row_in Finalizing old p told.0 in
          inl (record { row = row.0; stood = row.1; state = row.2; alone = told.1; stands = s.are_ended.these p row.0 held row.1 })
      | inr not ↦ inr (not, s.are_ended.others p not)
    ]

pub ended_state : (moment : ℤ) (edges : List Edge) (old new : List Invocation) (p : ℕ) → WasEnded moment edges old new p
    → IsInState Finalized new p
ended_state moment edges old new p h = state_at new p (ended moment h.row) h.stands

pub was_finalizing : (moment : ℤ) (edges : List Edge) (old new : List Invocation) (p : ℕ) → WasEnded moment edges old new p
    → IsInState Finalizing old p
was_finalizing moment edges old new p h = state_is Finalizing old p h.row h.stood h.state

-- a row that is active afterwards stood there before
pub active_row : (moment : ℤ) (edges : List Edge) (old new : List Invocation) → SettlesRows moment edges old new → (p : ℕ)
    → (row : Invocation) → slice_get new p ≡ Some row → row.state ≡ Active → slice_get old p ≡ Some row
active_row moment edges old new s p row e is =
    elim (ended_or_same moment edges old new s p) [
      | inl h ↦ absurd (apart Active Finalized new p active≢finalized (state_is Active new p row e is) (ended_state moment edges old new p h))
      | inr same ↦ sym same.1 ∙ e
    ]

-- a row that isn't finalizing stays
pub row_stays : (moment : ℤ) (edges : List Edge) (old new : List Invocation) → SettlesRows moment edges old new → (p : ℕ)
    → (row : Invocation) → slice_get old p ≡ Some row → (row.state ≡ Finalizing → ⊥) → slice_get new p ≡ Some row
row_stays moment edges old new s p row e other =
    elim (ended_or_same moment edges old new s p) [
      | inl h ↦ absurd (other (subst (λ (r : Invocation). r.state ≡ Finalizing) (same_Some h.row row (sym h.stood ∙ e)) h.state))
      | inr same ↦ same.1 ∙ e
    ]

pub active_before : (moment : ℤ) (edges : List Edge) (old new : List Invocation) → SettlesRows moment edges old new → (p : ℕ)
    → IsInState Active new p → IsInState Active old p
active_before moment edges old new s p is =
    let row = row_in Active new p is in
    state_is Active old p row.0 (active_row moment edges old new s p row.0 row.1 row.2) row.2

pub active_after : (moment : ℤ) (edges : List Edge) (old new : List Invocation) → SettlesRows moment edges old new → (p : ℕ)
    → IsInState Active old p → IsInState Active new p
active_after moment edges old new s p is =
    let row = row_in Active old p is in
    state_is Active new p row.0
    (row_stays moment edges old new s p row.0 row.1 (λ other. active≢finalizing (sym row.2 ∙ other))) row.2

-- settling has one outcome
pub settled_once : (moment : ℤ) (edges : List Edge) (old new other : List Invocation) → SettlesRows moment edges old new
    → SettlesRows moment edges old other → new ≡ other
settled_once moment edges old new other s t = same_lists new other
    (λ p. elim (held_or_not s.places p) [
      | inl held ↦
          let told = (s.all p).0 held in
          let row = row_in Finalizing old p told.0 in
          s.are_ended.these p row.0 held row.1 ∙ sym (t.are_ended.these p row.0 ((t.all p).1 told) row.1)
      | inr not ↦ s.are_ended.others p not ∙ sym (t.are_ended.others p (λ held. not ((s.all p).1 ((t.all p).0 held))))
    ])

-- the row that is begun, and those beside it
pub begun_here : (moment : ℤ) (rows : List Invocation) (p : ℕ) → IsInState Active rows p
    → IsInState Finalizing (with_changed (begun moment) rows p) p
begun_here moment rows p is =
    let row = row_in Active rows p is in
    state_at (with_changed (begun moment) rows p) p (begun moment row.0) (changed_here (begun moment) rows p row.0 row.1)

pub begun_elsewhere : (moment : ℤ) (state : State) (rows : List Invocation) (p q : ℕ) → q ≢ p → IsInState state rows q
    → IsInState state (with_changed (begun moment) rows p) q
begun_elsewhere moment state rows p q other is =
    same_state state rows (with_changed (begun moment) rows p) q (changed_other (begun moment) rows p q other) is

pub begun_was : (moment : ℤ) (state : State) (rows : List Invocation) (p q : ℕ) → q ≢ p
    → IsInState state (with_changed (begun moment) rows p) q → IsInState state rows q
begun_was moment state rows p q other is =
    same_state state (with_changed (begun moment) rows p) rows q (sym (changed_other (begun moment) rows p q other)) is

-- an active row beside the one that is begun
pub still_active : (moment : ℤ) (rows : List Invocation) (p q : ℕ) → IsInState Active rows p
    → IsInState Active (with_changed (begun moment) rows p) q → (q ≢ p) × IsInState Active rows q
still_active moment rows p q first is =
    let other : q ≢ p = λ same. apart Active Finalizing (with_changed (begun moment) rows p) p active≢finalizing
    (subst (IsInState Active (with_changed (begun moment) rows p)) same is) (begun_here moment rows p first) in
    (other, begun_was moment Active rows p q other is)

-- one row more that is begun
record IsOnceMore (moment : ℤ) (edges : List Edge) (first mid : List Invocation) (p : ℕ) (last : List Invocation) : Type 0 where
  pub settles : SettlesRows moment edges first mid
  pub active : IsInState Active mid p
  pub again : SettlesRows moment edges (with_changed (begun moment) mid p) last

first_active : (moment : ℤ) (edges : List Edge) (first mid : List Invocation) (p : ℕ) (last : List Invocation)
    → IsOnceMore moment edges first mid p last → IsInState Active first p
first_active moment edges first mid p last h = active_before moment edges first mid h.settles p h.active

not_first : (moment : ℤ) (edges : List Edge) (first mid : List Invocation) (p : ℕ) (last : List Invocation)
    → (h : IsOnceMore moment edges first mid p last) → (q : ℕ) → Contains h.settles.places q → q ≢ p
not_first moment edges first mid p last h q held same =
    apart Active Finalizing first p active≢finalizing (first_active moment edges first mid p last h)
    (subst (IsInState Finalizing first) same (((h.settles.all q).0 held).0))

less_reached : (moment : ℤ) (edges : List Edge) (first mid : List Invocation) (p : ℕ) (last : List Invocation)
    → IsOnceMore moment edges first mid p last → (q : ℕ)
    → ReachesActive edges (states_of (with_changed (begun moment) first p)) q → ReachesActive edges (states_of first) q
less_reached moment edges first mid p last h q =
    reach_over edges (states_of (with_changed (begun moment) first p)) (states_of first)
    (λ n is. (still_active moment first p n (first_active moment edges first mid p last h) is).1) q

to_mid : (moment : ℤ) (edges : List Edge) (first mid : List Invocation) (p : ℕ) (last : List Invocation)
    → IsOnceMore moment edges first mid p last → (q : ℕ)
    → ReachesActive edges (states_of (with_changed (begun moment) first p)) q
    → ReachesActive edges (states_of (with_changed (begun moment) mid p)) q
to_mid moment edges first mid p last h q =
    reach_over edges (states_of (with_changed (begun moment) first p)) (states_of (with_changed (begun moment) mid p))
    (λ n is.
    let both = still_active moment first p n (first_active moment edges first mid p last h) is in
    begun_elsewhere moment Active mid p n both.0 (active_after moment edges first mid h.settles n both.1)) q

from_mid : (moment : ℤ) (edges : List Edge) (first mid : List Invocation) (p : ℕ) (last : List Invocation)
    → IsOnceMore moment edges first mid p last → (q : ℕ)
    → ReachesActive edges (states_of (with_changed (begun moment) mid p)) q
    → ReachesActive edges (states_of (with_changed (begun moment) first p)) q
from_mid moment edges first mid p last h q =
    reach_over edges (states_of (with_changed (begun moment) mid p)) (states_of (with_changed (begun moment) first p))
    (λ n is.
    let both = still_active moment mid p n h.active is in
    begun_elsewhere moment Active first p n both.0 (active_before moment edges first mid h.settles n both.1)) q

-- at a place that wasn't ended the two are the same once the row is begun
same_begun : (moment : ℤ) (edges : List Edge) (first mid : List Invocation) (p : ℕ) (last : List Invocation)
    → (h : IsOnceMore moment edges first mid p last) → (q : ℕ) → (Contains h.settles.places q → ⊥)
    → slice_get (with_changed (begun moment) mid p) q ≡ slice_get (with_changed (begun moment) first p) q
same_begun moment edges first mid p last h q not =
    changed_same (begun moment) mid first p q (h.settles.are_ended.others q not)

both_told : (moment : ℤ) (edges : List Edge) (first mid : List Invocation) (p : ℕ) (last : List Invocation)
    → (h : IsOnceMore moment edges first mid p last) → (q : ℕ) → Contains (h.settles.places ++ h.again.places) q
    → IsInState Finalizing (with_changed (begun moment) first p) q
    × (¬ ReachesActive edges (states_of (with_changed (begun moment) first p)) q)
both_told moment edges first mid p last h q held =
    elim (Contains-append_cases h.settles.places h.again.places q held) [
      | inl before ↦
          let told = (h.settles.all q).0 before in (
            begun_elsewhere moment Finalizing first p q (not_first moment edges first mid p last h q before) told.0,
            λ reach. told.1 (less_reached moment edges first mid p last h q reach),
          )
      | inr now ↦
          let told = (h.again.all q).0 now in
          let not : Contains h.settles.places q → ⊥ = λ before.
          let row = row_in Finalizing first q ((h.settles.all q).0 before).0 in
          let other = not_first moment edges first mid p last h q before in
          apart Finalizing Finalized mid q finalizing≢finalized (begun_was moment Finalizing mid p q other told.0)
          (state_at mid q (ended moment row.0) (h.settles.are_ended.these q row.0 before row.1)) in (
            same_state Finalizing (with_changed (begun moment) mid p) (with_changed (begun moment) first p) q
                (sym (same_begun moment edges first mid p last h q not)) told.0,
            λ reach. told.1 (to_mid moment edges first mid p last h q reach),
          )
    ]

told_both : (moment : ℤ) (edges : List Edge) (first mid : List Invocation) (p : ℕ) (last : List Invocation)
    → (h : IsOnceMore moment edges first mid p last) → (q : ℕ) → IsInState Finalizing (with_changed (begun moment) first p) q
    → (¬ ReachesActive edges (states_of (with_changed (begun moment) first p)) q)
    → Contains (h.settles.places ++ h.again.places) q
told_both moment edges first mid p last h q is alone =
    elim (held_or_not h.settles.places q) [
      | inl before ↦ Contains-append_left h.settles.places h.again.places q before
      | inr not ↦ Contains-append_right h.settles.places h.again.places q
          ((h.again.all q).1 (
            same_state Finalizing (with_changed (begun moment) first p) (with_changed (begun moment) mid p) q
                (same_begun moment edges first mid p last h q not) is,
            λ reach. alone (from_mid moment edges first mid p last h q reach),
          ))
    ]

both_ended : (moment : ℤ) (edges : List Edge) (first mid : List Invocation) (p : ℕ) (last : List Invocation)
    → (h : IsOnceMore moment edges first mid p last) → (q : ℕ) (row : Invocation)
    → Contains (h.settles.places ++ h.again.places) q → slice_get (with_changed (begun moment) first p) q ≡ Some row
    → slice_get last q ≡ Some (ended moment row)
both_ended moment edges first mid p last h q row held e =
    elim (held_or_not h.settles.places q) [
      | inl before ↦
          let other = not_first moment edges first mid p last h q before in
          let stood : slice_get first q ≡ Some row = sym (changed_other (begun moment) first p q other) ∙ e in
          let now : slice_get (with_changed (begun moment) mid p) q ≡ Some (ended moment row) =
          changed_other (begun moment) mid p q other ∙ h.settles.are_ended.these q row before stood in
          row_stays moment edges (with_changed (begun moment) mid p) last h.again q (ended moment row) now
          (λ same. finalizing≢finalized (sym same))
      | inr not ↦ elim (Contains-append_cases h.settles.places h.again.places q held) [
        | inl before ↦ absurd (not before)
        | inr now ↦ h.again.are_ended.these q row now (same_begun moment edges first mid p last h q not ∙ e)
      ]
    ]

once_more : (moment : ℤ) (edges : List Edge) (first mid : List Invocation) (p : ℕ) (last : List Invocation)
    → IsOnceMore moment edges first mid p last → SettlesRows moment edges (with_changed (begun moment) first p) last
once_more moment edges first mid p last h = record {
  places = h.settles.places ++ h.again.places;
  all = λ q. (both_told moment edges first mid p last h q, λ told. told_both moment edges first mid p last h q told.0 told.1);
  are_ended = record {
    these = λ q row held e. both_ended moment edges first mid p last h q row held e;
    others = λ q not.
        let before : Contains h.settles.places q → ⊥ = λ held. not (Contains-append_left h.settles.places h.again.places q held) in
        h.again.are_ended.others q (λ held. not (Contains-append_right h.settles.places h.again.places q held))
        ∙ same_begun moment edges first mid p last h q before;
  };
}

-- settling once more after one more row was begun leaves what settling leaves where that row was begun with the others
pub settles_again : (moment : ℤ) (edges : List Edge) (first mid : List Invocation) (p : ℕ) (last : List Invocation)
    → SettlesRows moment edges first mid → IsInState Active mid p
    → SettlesRows moment edges (with_changed (begun moment) mid p) last
    → SettlesRows moment edges (with_changed (begun moment) first p) last
settles_again moment edges first mid p last settles active again =
    once_more moment edges first mid p last (record { settles = settles; active = active; again = again })

-- one row more is ended
pub ended_more : (moment : ℤ) (places : List ℕ) (old new : List Invocation) (p : ℕ) → AreEnded moment places old new
    → (Contains places p → ⊥) → AreEnded moment (places ++ p ∷ []) old (with_changed (ended moment) new p)
ended_more moment places old new p h not = record {
  these = λ q row held e. elim (cases_eq q p) [
    | inl here ↦
        let stood : slice_get old p ≡ Some row = subst (λ k. slice_get old k ≡ Some row) here e in
        subst (λ k. slice_get (with_changed (ended moment) new p) k ≡ Some (ended moment row)) (sym here)
        (changed_here (ended moment) new p row (h.others p not ∙ stood))
    | inr other ↦ elim (Contains-append_cases places (p ∷ []) q held) [
      | inl before ↦ changed_other (ended moment) new p q other ∙ h.these q row before e
      | inr now ↦ absurd (other (sym (in_one p q now)))
    ]
  ];
  others = λ q none.
      let other : q ≢ p = λ same. none (subst (Contains (places ++ p ∷ [])) (sym same) (Contains-push places p)) in
      changed_other (ended moment) new p q other ∙ h.others q (λ held. none (Contains-append_left places (p ∷ []) q held));
}

pub ended_none : (moment : ℤ) (rows : List Invocation) → AreEnded moment [] rows rows
ended_none moment rows = record { these = λ q row held e. absurd (omega (arith, held.1)); others = λ q none. refl }
