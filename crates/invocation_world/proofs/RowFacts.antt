-- Rows at places, and their states.
use Rattle.std.proofs.Common.{◌≡◌, ◌≢◌, ◌⊎◌, ℕ, zero, suc, List, [], ◌∷◌, Contains, Some, None, option_map, get_or, refl, sym, ap, ◌∙◌, subst, inl, inr}
use Rattle.std.specs.List.{All, slice_get}
use Rattle.std.proofs.lemmas.Bool.{cases_Bool, cases_eq, false≢true}
use Rattle.std.proofs.lemmas.Option.{same_Some, none-some, slice_get_within, slice_get-get_or, slice_get_cases, get_or_from_slice_get, slice_get-map}
use Rattle.names_realms.specs.declared.states.State.{State}
use Rattle.names_realms.specs.declared.states.State.TheVariants.{Active, Finalizing, Finalized}
use Rattle.inclusion_graph.specs.Edges.{has}
use Rattle.inclusion_graph.proofs.ListLemmas.{has_from, held_from}
use Rattle.invocations.specs.declared.invocation.Invocation.{Invocation}
use Rattle.invocations.specs.Rows.{IsInState, with_changed}

pub same_lists : {X : Type 0} (xs ys : List X) → ((i : ℕ) → slice_get xs i ≡ slice_get ys i) → xs ≡ ys
same_lists [] [] h = refl
same_lists [] (y ∷ ys) h = absurd (none-some y (h zero))
same_lists (x ∷ xs) [] h = absurd (none-some x (sym (h zero)))
same_lists (x ∷ xs) (y ∷ ys) h =
    let e : x ≡ y = same_Some x y (h zero) in
    let es : xs ≡ ys = same_lists xs ys (λ i. h (suc i)) in
    cc

pub all_at : {X : Type 0} (P : X → Type 0) (xs : List X) (i : ℕ) (x : X) → All P xs → slice_get xs i ≡ Some x → P x
all_at P xs i x h e = subst P (get_or_from_slice_get xs i x x e) (h i x (slice_get_within xs i x e))

pub all_from : {X : Type 0} (P : X → Type 0) (xs : List X) → ((i : ℕ) (x : X) → slice_get xs i ≡ Some x → P x) → All P xs
all_from P xs h = λ k d within. h k (get_or xs k d) (slice_get-get_or xs k d within)

-- something stands at a place, or nothing
pub stands : {X : Type 0} (xs : List X) (i : ℕ) → ((x : X) × (slice_get xs i ≡ Some x)) ⊎ (slice_get xs i ≡ None)
stands xs i = elim ((slice_get_cases xs i).1) [ inl h ↦ inl (h.0, h.2) | inr h ↦ inr h.1 ]

pub held_or_not : (ns : List ℕ) (n : ℕ) → Contains ns n ⊎ (Contains ns n → ⊥)
held_or_not ns n =
    elim (cases_Bool (has ns n)) [
      | inl yes_ ↦ inl (held_from ns n yes_)
      | inr no_ ↦ inr (λ held. false≢true (sym no_ ∙ has_from ns n held))
    ]

pub state_at : (rows : List Invocation) (p : ℕ) (row : Invocation) → slice_get rows p ≡ Some row
    → IsInState row.state rows p
state_at rows p row e = slice_get-map (λ (r : Invocation). r.state) rows p ∙ ap (option_map (λ (r : Invocation). r.state)) e

pub state_is : (state : State) (rows : List Invocation) (p : ℕ) (row : Invocation) → slice_get rows p ≡ Some row
    → row.state ≡ state → IsInState state rows p
state_is state rows p row e is = state_at rows p row e ∙ ap (λ s. Some s) is

pub row_in : (state : State) (rows : List Invocation) (p : ℕ) → IsInState state rows p
    → (row : Invocation) × (slice_get rows p ≡ Some row) × (row.state ≡ state)
row_in state rows p is =
    elim (stands rows p) [
      | inl h ↦ (h.0, h.1, same_Some h.0.state state (sym (state_at rows p h.0 h.1) ∙ is))
      | inr none ↦ absurd (none-some state (sym (ap (option_map (λ (r : Invocation). r.state)) none) ∙ sym (slice_get-map (λ (r : Invocation). r.state) rows p) ∙ is))
    ]

pub same_state : (state : State) (old new : List Invocation) (p : ℕ) → slice_get new p ≡ slice_get old p → IsInState state old p
    → IsInState state new p
same_state state old new p e is = let h = row_in state old p is in state_is state new p h.0 (e ∙ h.1) h.2

pub apart : (a b : State) (rows : List Invocation) (p : ℕ) → (a ≡ b → ⊥) → IsInState a rows p → IsInState b rows p → ⊥
apart a b rows p other this that = other (same_Some a b (sym this ∙ that))

pub active≢finalizing : Active ≡ Finalizing → ⊥
active≢finalizing e = cc

pub active≢finalized : Active ≡ Finalized → ⊥
active≢finalized e = cc

pub finalizing≢finalized : Finalizing ≡ Finalized → ⊥
finalizing≢finalized e = cc

-- the changed row, and the others
pub changed_here : (change : Invocation → Invocation) (rows : List Invocation) (p : ℕ) (row : Invocation)
    → slice_get rows p ≡ Some row → slice_get (with_changed change rows p) p ≡ Some (change row)
changed_here change [] p row e = absurd (none-some row e)
changed_here change (x ∷ rows) zero row e = ap (λ (r : Invocation). Some (change r)) (same_Some x row e)
changed_here change (x ∷ rows) (suc p) row e = changed_here change rows p row e

pub changed_other : (change : Invocation → Invocation) (rows : List Invocation) (p q : ℕ) → q ≢ p
    → slice_get (with_changed change rows p) q ≡ slice_get rows q
changed_other change [] p q other = refl
changed_other change (x ∷ rows) zero zero other = absurd (other refl)
changed_other change (x ∷ rows) zero (suc q) other = refl
changed_other change (x ∷ rows) (suc p) zero other = refl
changed_other change (x ∷ rows) (suc p) (suc q) other = changed_other change rows p q (λ e. other (ap suc e))

changed_none : (change : Invocation → Invocation) (rows : List Invocation) (p q : ℕ) → slice_get rows q ≡ None
    → slice_get (with_changed change rows p) q ≡ None
changed_none change [] p q e = refl
changed_none change (x ∷ rows) p zero e = absurd (none-some x (sym e))
changed_none change (x ∷ rows) zero (suc q) e = e
changed_none change (x ∷ rows) (suc p) (suc q) e = changed_none change rows p q e

pub changed_same : (change : Invocation → Invocation) (rows others : List Invocation) (p q : ℕ)
    → slice_get rows q ≡ slice_get others q
    → slice_get (with_changed change rows p) q ≡ slice_get (with_changed change others p) q
changed_same change rows others p q e =
    elim (cases_eq q p) [
      | inl here ↦ elim (stands rows q) [
        | inl h ↦
            subst (λ k. slice_get (with_changed change rows k) q ≡ slice_get (with_changed change others k) q) here
            (changed_here change rows q h.0 h.1 ∙ sym (changed_here change others q h.0 (sym e ∙ h.1)))
        | inr none ↦ changed_none change rows p q none ∙ sym (changed_none change others p q (sym e ∙ none))
      ]
      | inr other ↦ changed_other change rows p q other ∙ e ∙ sym (changed_other change others p q other)
    ]

-- a change that changes no row
pub changed_nothing : (change : Invocation → Invocation) → ((row : Invocation) → change row ≡ row) → (rows : List Invocation)
    (p : ℕ) → with_changed change rows p ≡ rows
changed_nothing change same [] p = refl
changed_nothing change same (x ∷ rows) zero = ap (λ r. r ∷ rows) (same x)
changed_nothing change same (x ∷ rows) (suc p) = ap (λ rs. x ∷ rs) (changed_nothing change same rows p)

-- one change and then another
pub changed_twice : (first second both : Invocation → Invocation) → ((row : Invocation) → second (first row) ≡ both row)
    → (rows : List Invocation) (p : ℕ) → with_changed second (with_changed first rows p) p ≡ with_changed both rows p
changed_twice first second both same [] p = refl
changed_twice first second both same (x ∷ rows) zero = ap (λ r. r ∷ rows) (same x)
changed_twice first second both same (x ∷ rows) (suc p) = ap (λ rs. x ∷ rs) (changed_twice first second both same rows p)
