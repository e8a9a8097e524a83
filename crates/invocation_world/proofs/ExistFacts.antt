-- Each world settles, and what is due in it can be carried out.
use Rattle.std.proofs.Common.{◌≡◌, ◌≢◌, ◌⊎◌, ◌↔◌, ◌<◌, ℕ, zero, suc, ℤ, ◌≤ℤ◌, List, [], ◌∷◌, ◌++◌, length, set, Contains, Some, refl, sym, ap, ◌∙◌, subst, inl, inr, arith}
use Rattle.std.specs.List.{All}
use Rattle.std.proofs.lemmas.Bool.{cases_Bool, cases_eq, false≢true}
use Rattle.std.proofs.lemmas.Int.{ints, by_lt_z}
use Rattle.std.proofs.lemmas.List.Elements.{All-cons, All-nil, All-weaker, Contains-append_cases, Contains-append_left, Contains-push}
use Rattle.std.proofs.lemmas.Option.{same_Some, none-some, slice_get_within}
use Rattle.names_realms.specs.declared.states.State.{State}
use Rattle.names_realms.specs.declared.states.State.TheVariants.{Active, Finalizing, Finalized}
use Rattle.inclusion_graph.specs.declared.edge.Edge.{Edge}
use Rattle.inclusion_graph.proofs.ListLemmas.{at_set_other, in_one}
use Rattle.finaliser.specs.Settling.{IsIn, ReachesActive}
use Rattle.invocations.specs.declared.invocation.Invocation.{Invocation}
use Rattle.invocations.specs.Due.{IsDue}
use Rattle.invocations.specs.Rows.{IsInState, begun, ended, states_of, with_changed}
use Rattle.invocation_world.specs.World.{World}
use Rattle.invocation_world.specs.Advancing.{Advances, AreQuiet, CarriesOut, IsLeast, after_deadlines, all_begun, is_active}
use Rattle.invocation_world.specs.Settling.{AreEnded, Settles, SettlesRows}
use Rattle.invocation_world.specs.Turns.{active_count}
use Rattle.invocation_world.proofs.AdvanceFacts.{least_row}
use Rattle.invocation_world.proofs.BegunFacts.{active_is, all_begun_at, due_begun, is_of_active}
use Rattle.invocation_world.proofs.CodeFacts.{active_le, one_less}
use Rattle.invocation_world.proofs.ReachFacts.{reaches_active_or_not}
use Rattle.invocation_world.proofs.RowFacts.{stands, state_is, same_state, apart, active≢finalizing}
use Rattle.invocation_world.proofs.SettleFacts.{active_before, ended_more, ended_none}
use Rattle.invocation_world.proofs.ValidFacts.{all_begin}

due_or_not : (moment : ℤ) (row : Invocation) → IsDue moment row ⊎ (IsDue moment row → ⊥)
due_or_not moment row =
    elim (cases_Bool (is_active row.state)) [
      | inl yes_ ↦ by_lt_z moment row.deadline
          (λ ahead. inr (λ due. let le = due.1 in absurd (omega (arith, ints, ahead, le))))
          (λ come. inl (is_of_active row.state yes_, come))
      | inr no_ ↦ inr (λ due. false≢true (sym no_ ∙ active_is row.state due.0))
    ]

-- a row in front of the others
in_front : (moment d : ℤ) (row : Invocation) (rows : List Invocation) → IsLeast rows moment d → (IsDue moment row → d ≤ℤ row.deadline)
    → IsLeast (row ∷ rows) moment d
in_front moment d row rows h low = record {
  due = (suc h.due.0, h.due.1, omega (arith, h.due.2), h.due.3, h.due.4);
  least = All-cons (λ (r : Invocation). IsDue moment r → d ≤ℤ r.deadline) row rows low h.least;
}

itself : (moment : ℤ) (row : Invocation) (rows : List Invocation) → IsDue moment row
    → All (λ (r : Invocation). IsDue moment r → row.deadline ≤ℤ r.deadline) rows → IsLeast (row ∷ rows) moment row.deadline
itself moment row rows due least = record {
  due = (zero, row, omega arith, refl, (due, refl));
  least = All-cons (λ (r : Invocation). IsDue moment r → row.deadline ≤ℤ r.deadline) row rows (λ is. omega (arith, ints)) least;
}

quiet_or_least : (moment : ℤ) (rows : List Invocation) → AreQuiet rows moment ⊎ ((d : ℤ) × IsLeast rows moment d)
quiet_or_least moment [] = inl (All-nil (λ (r : Invocation). ¬ IsDue moment r))
quiet_or_least moment (row ∷ rows) =
    elim (due_or_not moment row) [
      | inr not ↦ elim (quiet_or_least moment rows) [
        | inl quiet ↦ inl (All-cons (λ (r : Invocation). ¬ IsDue moment r) row rows not quiet)
        | inr h ↦ inr (h.0, in_front moment h.0 row rows h.1 (λ due. absurd (not due)))
      ]
      | inl due ↦ elim (quiet_or_least moment rows) [
        | inl quiet ↦ inr (
          row.deadline,
          itself moment row rows due
              (All-weaker (λ (r : Invocation). ¬ IsDue moment r) (λ (r : Invocation). IsDue moment r → row.deadline ≤ℤ r.deadline) (λ r never is. absurd (never is)) rows quiet),
        )
        | inr h ↦ by_lt_z row.deadline h.0
            (λ sooner. inr (
              row.deadline,
              itself moment row rows due
                  (All-weaker (λ (r : Invocation). IsDue moment r → h.0 ≤ℤ r.deadline) (λ (r : Invocation). IsDue moment r → row.deadline ≤ℤ r.deadline)
                  (λ r low is. let le = low is in omega (arith, ints, sooner, le)) rows h.1.least),
            ))
            (λ later. inr (h.0, in_front moment h.0 row rows h.1 (λ is. later)))
      ]
    ]

finalizing_told : (s : State) → (s ≡ Finalizing) ⊎ (s ≡ Finalizing → ⊥)
finalizing_told Active = inr (λ e. let no : Active ≡ Finalizing = e in cc)
finalizing_told Finalizing = inl refl
finalizing_told Finalized = inr (λ e. let no : Finalized ≡ Finalizing = e in cc)

finalizing_or_not : (rows : List Invocation) (p : ℕ) → IsInState Finalizing rows p ⊎ (IsInState Finalizing rows p → ⊥)
finalizing_or_not rows p =
    elim (stands (states_of rows) p) [
      | inl h ↦ elim (finalizing_told h.0) [
        | inl is ↦ inl (h.1 ∙ ap (λ s. Some s) is)
        | inr not ↦ inr (λ is. not (same_Some h.0 Finalizing (sym h.1 ∙ is)))
      ]
      | inr none ↦ inr (λ is. none-some Finalizing (sym none ∙ is))
    ]

abbrev Waits : List Edge → List Invocation → ℕ → Type 0
Waits edges old p = IsInState Finalizing old p × (¬ ReachesActive edges (states_of old) p)

waits_or_not : (edges : List Edge) (old : List Invocation) (p : ℕ) → Waits edges old p ⊎ (Waits edges old p → ⊥)
waits_or_not edges old p =
    elim (finalizing_or_not old p) [
      | inr not ↦ inr (λ h. not h.0)
      | inl is ↦ elim (reaches_active_or_not edges (states_of old) p) [
        | inl reach ↦ inr (λ h. h.1 reach)
        | inr alone ↦ inl (is, alone)
      ]
    ]

-- the rows below a place have settled
record SettlesBelow (moment : ℤ) (edges : List Edge) (old : List Invocation) (n : ℕ) : Type 0 where
  pub places : List ℕ
  pub new : List Invocation
  pub all : (p : ℕ) → Contains places p ↔ ((p < n) × Waits edges old p)
  pub are_ended : AreEnded moment places old new

below_more : (moment : ℤ) (edges : List Edge) (old : List Invocation) (n : ℕ) → SettlesBelow moment edges old n
    → Waits edges old n → SettlesBelow moment edges old (suc n)
below_more moment edges old n h waits = record {
  places = h.places ++ n ∷ [];
  new = with_changed (ended moment) h.new n;
  all = λ p. (
    λ held. elim (Contains-append_cases h.places (n ∷ []) p held) [
      | inl before ↦ let told = (h.all p).0 before in (omega (arith, told.0), told.1)
      | inr here ↦ subst (λ k. (k < suc n) × Waits edges old k) (in_one n p here) (omega arith, waits)
    ],
    λ told. elim (cases_eq n p) [
      | inl here ↦ subst (Contains (h.places ++ n ∷ [])) here (Contains-push h.places n)
      | inr other ↦ Contains-append_left h.places (n ∷ []) p ((h.all p).1 (omega (arith, told.0, other), told.1))
    ],
  );
  are_ended = ended_more moment h.places old h.new n h.are_ended (λ held. let told = (h.all n).0 held in omega (arith, told.0));
}

below_same : (moment : ℤ) (edges : List Edge) (old : List Invocation) (n : ℕ) → SettlesBelow moment edges old n
    → (Waits edges old n → ⊥) → SettlesBelow moment edges old (suc n)
below_same moment edges old n h not = record {
  places = h.places;
  new = h.new;
  all = λ p. (
    λ held. let told = (h.all p).0 held in (omega (arith, told.0), told.1),
    λ told. elim (cases_eq n p) [
      | inl here ↦ absurd (not (subst (Waits edges old) (sym here) told.1))
      | inr other ↦ (h.all p).1 (omega (arith, told.0, other), told.1)
    ],
  );
  are_ended = h.are_ended;
}

settles_below : (moment : ℤ) (edges : List Edge) (old : List Invocation) (n : ℕ) → SettlesBelow moment edges old n
settles_below moment edges old zero = record {
  places = [];
  new = old;
  all = λ p. (λ held. absurd (omega (arith, held.1)), λ told. absurd (omega (arith, told.0)));
  are_ended = ended_none moment old;
}
settles_below moment edges old (suc n) =
    elim (waits_or_not edges old n) [
      | inl waits ↦ below_more moment edges old n (settles_below moment edges old n) waits
      | inr not ↦ below_same moment edges old n (settles_below moment edges old n) not
    ]

pub settled_there : (moment : ℤ) (edges : List Edge) (old : List Invocation) → (new : List Invocation) × SettlesRows moment edges old new
settled_there moment edges old =
    let h = settles_below moment edges old (length (states_of old)) in (
      h.new,
      record {
        places = h.places;
        all = λ p. (
          λ held. ((h.all p).0 held).1,
          λ told. (h.all p).1 (slice_get_within (states_of old) p Finalizing told.0, told),
        );
        are_ended = h.are_ended;
      },
    )

-- fewer rows are active once those of the least deadline are begun
pub fewer_left : (moment d : ℤ) (edges : List Edge) (rows between : List Invocation) → IsLeast rows moment d
    → SettlesRows d edges (all_begun d rows) between → active_count (states_of between) < active_count (states_of rows)
fewer_left moment d edges rows between least s =
    let first = least_row rows moment d least in
    let mid = all_begun d rows in
    let p = first.place in
    let gone : IsInState Finalizing mid p = state_is Finalizing mid p (begun d first.row)
    (all_begun_at d rows p first.row first.stands ∙ ap (λ (r : Invocation). Some r) (due_begun d first.row first.due.0 first.deadline)) refl in
    let was : (q : ℕ) → IsInState Active mid q → IsInState Active rows q = λ q is.
    elim (all_begin d rows q) [
      | inl same ↦ same_state Active mid rows q (sym same) is
      | inr b ↦ absurd (apart Active Finalizing mid q active≢finalizing is (state_is Finalizing mid q (begun d b.row) b.stands refl))
    ] in
    let stay : (q : ℕ) → IsIn Active (states_of between) q → IsIn Active (set (states_of rows) p Finalizing) q = λ q is.
    let before = active_before d edges mid between s q is in
    let other : q ≢ p = λ same. apart Active Finalizing mid p active≢finalizing (subst (IsInState Active mid) same before) gone in
    at_set_other (states_of rows) p q Finalizing other ∙ was q before in
    let le = active_le (set (states_of rows) p Finalizing) (states_of between) stay in
    let less = one_less (states_of rows) p (state_is Active rows p first.row first.stands first.due.0) in
    omega (arith, le, less)

abbrev Carried : List Edge → ℤ → List Invocation → Type 0
Carried edges moment rows = (ds : List ℤ) × (after : List Invocation) × CarriesOut edges moment rows ds after

carried_there : (edges : List Edge) (moment : ℤ) (fuel : ℕ) (rows : List Invocation) → active_count (states_of rows) < fuel
    → Carried edges moment rows
carried_there edges moment zero rows less = absurd (omega arith)
carried_there edges moment (suc fuel) rows less =
    elim (quiet_or_least moment rows) [
      | inl quiet ↦ ([], rows, (quiet, refl))
      | inr h ↦
          let between = settled_there h.0 edges (all_begun h.0 rows) in
          let fewer = fewer_left moment h.0 edges rows between.0 h.1 between.1 in
          let rest = carried_there edges moment fuel between.0 (omega (arith, fewer, less)) in
          (h.0 ∷ rest.0, rest.1, (h.1, (between.0, between.1, rest.2)))
    ]

pub advance_there : (moment : ℤ) (w : World) → (after : World) × Advances w moment after
advance_there moment w =
    let h = carried_there w.inclusions moment (suc (active_count (states_of w.invocations))) w.invocations (omega arith) in (
      after_deadlines moment h.0 h.1 w,
      record { deadlines = h.0; rows = h.1; carried = h.2; after_is = refl },
    )

pub settling_there : (moment : ℤ) (w : World) → (after : World) × Settles moment w after
settling_there moment w =
    let h = settled_there moment w.inclusions w.invocations in (
      record { invocations = h.0; inclusions = w.inclusions; last = w.last },
      record { rows = h.1; inclusions = refl; last = refl },
    )
