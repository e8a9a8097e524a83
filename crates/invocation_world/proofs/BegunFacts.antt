-- All rows of one deadline that are begun.
use Rattle.std.proofs.Common.{◌≡◌, ◌⊎◌, ℕ, zero, suc, ℤ, true, false, ◌&&◌, List, [], ◌∷◌, Some, refl, sym, ap, ◌∙◌, inl, inr}
use Rattle.std.specs.List.{slice_get}
use Rattle.std.specs.Ordering.{int_eq}
use Rattle.std.proofs.lemmas.Bool.{cases_Bool, and_parts, and_from, cond-true, cond-false}
use Rattle.std.proofs.lemmas.Bool.Decides.{Decides-int_eq}
use Rattle.std.proofs.lemmas.Option.{same_Some, slice_get-map}
use Rattle.std.proofs.Common.{option_map}
use Rattle.names_realms.specs.declared.states.State.{State}
use Rattle.names_realms.specs.declared.states.State.TheVariants.{Active, Finalizing, Finalized}
use Rattle.invocations.specs.declared.invocation.Invocation.{Invocation}
use Rattle.invocations.specs.Rows.{begun, with_changed}
use Rattle.invocation_world.specs.Advancing.{all_begun, begun_if_due, is_active}

pub active_is : (state : State) → state ≡ Active → is_active state ≡ true
active_is state e = ap is_active e

pub is_of_active : (state : State) → is_active state ≡ true → state ≡ Active
is_of_active Active e = refl
is_of_active Finalizing e = let no : false ≡ true = e in cc
is_of_active Finalized e = let no : false ≡ true = e in cc

pub due_begun : (d : ℤ) (row : Invocation) → row.state ≡ Active → row.deadline ≡ d → begun_if_due d row ≡ begun d row
due_begun d row active e =
    cond-true (is_active row.state && int_eq row.deadline d) (begun d row) row
    (and_from (is_active row.state) (int_eq row.deadline d) (active_is row.state active) ((Decides-int_eq row.deadline d).1 e))

-- a row is begun, or it stays
pub begun_or_same : (d : ℤ) (row : Invocation)
    → ((row.state ≡ Active) × (row.deadline ≡ d) × (begun_if_due d row ≡ begun d row)) ⊎ (begun_if_due d row ≡ row)
begun_or_same d row =
    elim (cases_Bool (is_active row.state && int_eq row.deadline d)) [
      | inl yes_ ↦
          let both = and_parts (is_active row.state) (int_eq row.deadline d) yes_ in
          inl (
            is_of_active row.state both.0,
            (Decides-int_eq row.deadline d).0 both.1,
            cond-true (is_active row.state && int_eq row.deadline d) (begun d row) row yes_,
          )
      | inr no_ ↦ inr (cond-false (is_active row.state && int_eq row.deadline d) (begun d row) row no_)
    ]

pub not_begun : (d : ℤ) (row : Invocation) → (row.state ≡ Active → row.deadline ≡ d → ⊥) → begun_if_due d row ≡ row
not_begun d row h = elim (begun_or_same d row) [ inl both ↦ absurd (h both.0 both.1) | inr same ↦ same ]

pub all_begun_at : (d : ℤ) (rows : List Invocation) (p : ℕ) (row : Invocation) → slice_get rows p ≡ Some row
    → slice_get (all_begun d rows) p ≡ Some (begun_if_due d row)
all_begun_at d rows p row e = slice_get-map (begun_if_due d) rows p ∙ ap (option_map (begun_if_due d)) e

-- no row has this deadline
pub none_begun : (d : ℤ) (rows : List Invocation)
    → ((p : ℕ) (row : Invocation) → slice_get rows p ≡ Some row → row.state ≡ Active → row.deadline ≡ d → ⊥)
    → all_begun d rows ≡ rows
none_begun d [] h = refl
none_begun d (x ∷ rows) h =
    ap (λ r. r ∷ all_begun d rows) (not_begun d x (λ active e. h zero x refl active e))
    ∙ ap (λ rs. x ∷ rs) (none_begun d rows (λ p row e. h (suc p) row e))

twice_begun : (d : ℤ) (row : Invocation) → begun_if_due d (begun d row) ≡ begun d row
twice_begun d row = not_begun d (begun d row) (λ active e. let no : Finalizing ≡ Active = active in cc)

-- one of the rows that have it is begun already
pub one_begun : (d : ℤ) (rows : List Invocation) (p : ℕ) (row : Invocation) → slice_get rows p ≡ Some row → row.state ≡ Active
    → row.deadline ≡ d → all_begun d (with_changed (begun d) rows p) ≡ all_begun d rows
one_begun d [] p row e active is = refl
one_begun d (x ∷ rows) zero row e active is =
    let same : x ≡ row = same_Some x row e in
    let first : x.state ≡ Active = ap (λ (r : Invocation). r.state) same ∙ active in
    let due : x.deadline ≡ d = ap (λ (r : Invocation). r.deadline) same ∙ is in
    ap (λ r. r ∷ all_begun d rows) (twice_begun d x ∙ sym (due_begun d x first due))
one_begun d (x ∷ rows) (suc p) row e active is = ap (λ rs. begun_if_due d x ∷ rs) (one_begun d rows p row e active is)
