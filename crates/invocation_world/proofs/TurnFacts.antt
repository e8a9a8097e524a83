-- One after the other is all at once.
use Rattle.std.proofs.Common.{◌≡◌, ℕ, ℤ, ◌≤ℤ◌, List, [], ◌∷◌, Some, refl, sym, ◌∙◌, subst, inl, inr, arith}
use Rattle.std.specs.List.{All, slice_get}
use Rattle.std.specs.Ordering.{int_eq}
use Rattle.std.proofs.lemmas.Bool.{cases_Bool, false≢true}
use Rattle.std.proofs.lemmas.Bool.Decides.{Decides-int_eq}
use Rattle.std.proofs.lemmas.Int.{ints}
use Rattle.std.proofs.lemmas.Option.{slice_get_within, get_or_from_slice_get}
use Rattle.names_realms.specs.declared.states.State.TheVariants.{Active, Finalizing}
use Rattle.inclusion_graph.specs.declared.edge.Edge.{Edge}
use Rattle.invocations.specs.declared.invocation.Invocation.{Invocation}
use Rattle.invocations.specs.Due.{IsDue, IsNextDue}
use Rattle.invocations.specs.Rows.{IsInState, begun, with_changed}
use Rattle.invocation_world.specs.Advancing.{CarriesOut, IsLeast, all_begun}
use Rattle.invocation_world.specs.Settling.{SettlesRows}
use Rattle.invocation_world.specs.Turns.{RetiresInTurn, RunsTo}
use Rattle.invocation_world.proofs.BegunFacts.{none_begun, one_begun}
use Rattle.invocation_world.proofs.RowFacts.{all_at, all_from, state_is}
use Rattle.invocation_world.proofs.SettleFacts.{active_row, row_stays, settles_again, still_active}
use Rattle.invocation_world.proofs.RowFacts.{changed_other}

-- no due row has an earlier deadline
abbrev NoneBefore : ℤ → ℤ → List Invocation → Type 0
NoneBefore moment d rows = All (λ row. IsDue moment row → d ≤ℤ row.deadline) rows

active_stands : (moment : ℤ) (edges : List Edge) (old new : List Invocation) → SettlesRows moment edges old new → (p : ℕ)
    → (row : Invocation) → slice_get old p ≡ Some row → row.state ≡ Active → slice_get new p ≡ Some row
active_stands moment edges old new s p row e is =
    row_stays moment edges old new s p row e (λ other. let no : Active ≡ Finalizing = sym is ∙ other in cc)

-- a row that is active after it settled once one was begun was there, active, before
stood_before : (moment : ℤ) (edges : List Edge) (old new : List Invocation) (p : ℕ) → IsInState Active old p
    → SettlesRows moment edges (with_changed (begun moment) old p) new → (q : ℕ) (row : Invocation) → slice_get new q ≡ Some row
    → row.state ≡ Active → slice_get old q ≡ Some row
stood_before moment edges old new p active s q row e is =
    let mid = active_row moment edges (with_changed (begun moment) old p) new s q row e is in
    let both = still_active moment old p q active (state_is Active (with_changed (begun moment) old p) q row mid is) in
    sym (changed_other (begun moment) old p q both.0) ∙ mid

none_before_after : (moment d e : ℤ) (edges : List Edge) (old new : List Invocation) (p : ℕ) → IsInState Active old p
    → SettlesRows e edges (with_changed (begun e) old p) new → NoneBefore moment d old → NoneBefore moment d new
none_before_after moment d e edges old new p active s none =
    all_from (λ row. IsDue moment row → d ≤ℤ row.deadline) new
    (λ q row at due. all_at (λ r. IsDue moment r → d ≤ℤ r.deadline) old q row none
    (stood_before e edges old new p active s q row at due.0) due)

-- what is next is the least
next_least : (rows : List Invocation) (moment : ℤ) (p : ℕ) (row : Invocation) → IsNextDue rows moment p row
    → IsLeast rows moment row.deadline
next_least rows moment p row next = record {
  due = (p, row, slice_get_within rows p row next.stands, get_or_from_slice_get rows p row row next.stands, (next.due, refl));
  least = next.least;
}

abbrev Carried : ℤ → ℤ → List Edge → List Invocation → List Invocation → Type 0
Carried moment d edges first after =
    (later : List ℤ) × (between : List Invocation) × SettlesRows d edges (all_begun d first) between
    × CarriesOut edges moment between later after

-- the first of the turns, and with it all of its deadline
with_first : (moment : ℤ) (edges : List Edge) (rows after : List Invocation) (p : ℕ) (row : Invocation)
    → IsNextDue rows moment p row → Carried moment row.deadline edges (with_changed (begun row.deadline) rows p) after
    → (deadlines : List ℤ) × CarriesOut edges moment rows deadlines after
with_first moment edges rows after p row next h =
    let same = one_begun row.deadline rows p row next.stands next.due.0 refl in (
      row.deadline ∷ h.0,
      (
        next_least rows moment p row next,
        (h.1, subst (λ rs. SettlesRows row.deadline edges rs h.1) same h.2, h.3),
      ),
    )

-- no active row has the deadline d any more
none_left : (moment d : ℤ) (edges : List Edge) (first mid : List Invocation) → SettlesRows d edges first mid
    → ((p : ℕ) (row : Invocation) → slice_get mid p ≡ Some row → row.state ≡ Active → row.deadline ≡ d → ⊥)
    → all_begun d first ≡ first
none_left moment d edges first mid s none =
    none_begun d first (λ p row e active is. none p row (active_stands d edges first mid s p row e active) active is)

same_deadline : (moment d : ℤ) (edges : List Edge) (first mid between : List Invocation) (p : ℕ) (row : Invocation)
    → SettlesRows d edges first mid → IsNextDue mid moment p row → row.deadline ≡ d
    → SettlesRows row.deadline edges (with_changed (begun row.deadline) mid p) between
    → SettlesRows d edges (with_changed (begun d) first p) between
same_deadline moment d edges first mid between p row s next same again =
    settles_again d edges first mid p between s (state_is Active mid p row next.stands next.due.0)
    (subst (λ (t : ℤ). SettlesRows t edges (with_changed (begun t) mid p) between) same again)

between_them : (a d other : ℤ) → other ≡ d → a ≤ℤ other → d ≤ℤ a → a ≡ d
between_them a d other is low high = omega (arith, ints, low, high, is)

mid_block : (moment d : ℤ) (edges : List Edge) (first mid : List Invocation) (places : List ℕ) (after : List Invocation)
    → d ≤ℤ moment → SettlesRows d edges first mid → NoneBefore moment d mid → RetiresInTurn edges moment mid places after
    → Carried moment d edges first after
mid_block moment d edges first mid [] after le s none h =
    let same = none_left moment d edges first mid s
    (λ p row e active is. all_at (λ r. ¬ IsDue moment r) mid p row h.0 e (active, omega (arith, ints, le, is))) in
    ([], mid, subst (λ rs. SettlesRows d edges rs mid) (sym same) s, h)
mid_block moment d edges first mid (p ∷ places) after le s none h =
    let row = h.0 in
    let next = h.1 in
    let between = h.2.0 in
    let active : IsInState Active mid p = state_is Active mid p row next.stands next.due.0 in
    elim (cases_Bool (int_eq row.deadline d)) [
      | inl yes_ ↦
          let same : row.deadline ≡ d = (Decides-int_eq row.deadline d).0 yes_ in
          let again = same_deadline moment d edges first mid between p row s next same h.2.1 in
          let rest = mid_block moment d edges (with_changed (begun d) first p) between places after le again
          (none_before_after moment d row.deadline edges mid between p active h.2.1 none) h.2.2 in
          let stood = active_row d edges first mid s p row next.stands next.due.0 in
          (rest.0, rest.1, subst (λ rs. SettlesRows d edges rs rest.1) (one_begun d first p row stood next.due.0 same) rest.2, rest.3)
      | inr no_ ↦
          let apart : row.deadline ≡ d → ⊥ = λ same. false≢true (sym no_ ∙ (Decides-int_eq row.deadline d).1 same) in
          let same = none_left moment d edges first mid s
          (λ q other e idle is. apart (between_them row.deadline d other.deadline is
          (all_at (λ r. IsDue moment r → row.deadline ≤ℤ r.deadline) mid q other next.least e (idle, omega (arith, ints, le, is)))
          (all_at (λ r. IsDue moment r → d ≤ℤ r.deadline) mid p row none next.stands next.due))) in
          let rest = mid_block moment row.deadline edges (with_changed (begun row.deadline) mid p) between places after next.due.1
          h.2.1 (none_before_after moment row.deadline row.deadline edges mid between p active h.2.1 next.least) h.2.2 in
          let all = with_first moment edges mid after p row next rest in
          (all.0, mid, subst (λ rs. SettlesRows d edges rs mid) (sym same) s, all.1)
    ]

by_places : (moment : ℤ) (edges : List Edge) (rows after : List Invocation) (places : List ℕ)
    → RetiresInTurn edges moment rows places after → (deadlines : List ℤ) × CarriesOut edges moment rows deadlines after
by_places moment edges rows after [] h = ([], h)
by_places moment edges rows after (p ∷ places) h =
    let row = h.0 in
    let next = h.1 in
    let active : IsInState Active rows p = state_is Active rows p row next.stands next.due.0 in
    with_first moment edges rows after p row next
    (mid_block moment row.deadline edges (with_changed (begun row.deadline) rows p) h.2.0 places after next.due.1 h.2.1
    (none_before_after moment row.deadline row.deadline edges rows h.2.0 p active h.2.1 next.least) h.2.2)

-- rows that are retired in turn are carried out deadline by deadline
pub turns_carry_out : (moment : ℤ) (edges : List Edge) (rows after : List Invocation) → RunsTo edges moment rows after
    → (deadlines : List ℤ) × CarriesOut edges moment rows deadlines after
turns_carry_out moment edges rows after h = by_places moment edges rows after h.0 h.1
