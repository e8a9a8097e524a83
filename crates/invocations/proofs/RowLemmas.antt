-- Rows that are added and changed.
use Rattle.std.proofs.Common.{◌≡◌, ◌⊎◌, ◌<◌, ◌≤◌, ℕ, zero, suc, List, [], ◌∷◌, ◌++◌, length, Contains, Some, None, get_or, set, refl, sym, ap, ◌∙◌, subst, inl, inr, arith, lit≤, option_map, Result, Ok, Err}
use Rattle.std.specs.List.{slice_get}
use Rattle.std.specs.Result.{OnErr, OnOk}
use Rattle.std.proofs.lemmas.Option.{same_Some, slice_get_within, get_or_from_slice_get, slice_get_read, slice_get-map}
use Rattle.std.proofs.lemmas.List.{length_push, map_push}
use Rattle.invocations.specs.declared.invocation.Invocation.{Invocation}
use Rattle.invocations.specs.Rows.{ids_of, HasId, IsPlaceOf, IsTable, with_changed}

-- what a call does where it can't fail
pub if_ok : {T E : Type 0} (result : Result T E) (P Q : Type 0) → OnOk result P → OnErr result Q → (Q → ⊥) → P
if_ok (Ok x) P Q p q not = p
if_ok (Err e) P Q p q not = absurd (not q)

pub changed_is : (change : Invocation → Invocation) (rows : List Invocation) (place : ℕ) (row : Invocation)
    → row ≡ get_or rows place row → set rows place (change row) ≡ with_changed change rows place
changed_is change [] place row e = refl
changed_is change (x ∷ xs) zero row e = ap (λ r. change r ∷ xs) e
changed_is change (x ∷ xs) (suc place) row e = ap (λ rs. x ∷ rs) (changed_is change xs place row e)

pub ids_stay : (change : Invocation → Invocation) → ((row : Invocation) → (change row).id ≡ row.id)
    → (rows : List Invocation) (place : ℕ) → ids_of (with_changed change rows place) ≡ ids_of rows
ids_stay change same [] place = refl
ids_stay change same (x ∷ xs) zero = ap (λ id. id ∷ ids_of xs) (same x)
ids_stay change same (x ∷ xs) (suc place) = ap (λ ids. x.id ∷ ids) (ids_stay change same xs place)

pub length_stays : (change : Invocation → Invocation) (rows : List Invocation) (place : ℕ)
    → length (with_changed change rows place) ≡ length rows
length_stays change [] place = refl
length_stays change (x ∷ xs) zero = refl
length_stays change (x ∷ xs) (suc place) = ap suc (length_stays change xs place)

abbrev AreUnique : List (List ℕ) → Type 0
AreUnique ids = (id : List ℕ) (i j : ℕ) → slice_get ids i ≡ Some id → slice_get ids j ≡ Some id → i ≡ j

pub table_changed : (change : Invocation → Invocation) → ((row : Invocation) → (change row).id ≡ row.id)
    → (rows : List Invocation) (place : ℕ) → IsTable rows → IsTable (with_changed change rows place)
table_changed change same rows place t = record {
  unique = subst AreUnique (sym (ids_stay change same rows place)) t.unique;
  few = subst (λ n. n ≤ 65_536) (sym (length_stays change rows place)) t.few;
}

pub table_set : (change : Invocation → Invocation) → ((row : Invocation) → (change row).id ≡ row.id)
    → (rows : List Invocation) (place : ℕ) (row : Invocation) → row ≡ get_or rows place row → IsTable rows
    → IsTable (set rows place (change row))
table_set change same rows place row e t =
    subst IsTable (sym (changed_is change rows place row e)) (table_changed change same rows place t)

-- what stands at a place of a list with one value more
pub at_place : {X : Type 0} (xs : List X) (x y : X) (i : ℕ) → slice_get (xs ++ x ∷ []) i ≡ Some y
    → (slice_get xs i ≡ Some y) ⊎ ((i ≡ length xs) × (x ≡ y))
at_place [] x y zero e = inr (refl, same_Some x y e)
at_place [] x y (suc i) e = let no : None ≡ Some y = e in cc
at_place (z ∷ zs) x y zero e = inl e
at_place (z ∷ zs) x y (suc i) e =
    elim (at_place zs x y i e) [ inl h ↦ inl h | inr h ↦ inr (ap suc h.0, h.1) ]

pub at_front : {X : Type 0} (xs : List X) (x y : X) (i : ℕ) → slice_get xs i ≡ Some y → slice_get (xs ++ x ∷ []) i ≡ Some y
at_front [] x y i e = let no : None ≡ Some y = e in cc
at_front (z ∷ zs) x y zero e = e
at_front (z ∷ zs) x y (suc i) e = at_front zs x y i e

pub at_end : {X : Type 0} (xs : List X) (x : X) → slice_get (xs ++ x ∷ []) (length xs) ≡ Some x
at_end [] x = refl
at_end (z ∷ zs) x = at_end zs x

pub contained : {X : Type 0} (xs : List X) (i : ℕ) (x : X) → slice_get xs i ≡ Some x → Contains xs x
contained xs i x e = (i, slice_get_within xs i x e, get_or_from_slice_get xs i x x e)

unique_push : (ids : List (List ℕ)) (new : List ℕ) → AreUnique ids → (¬ Contains ids new) → AreUnique (ids ++ new ∷ [])
unique_push ids new unique free id i j this that =
    elim (at_place ids new id i this) [
      | inl a ↦ elim (at_place ids new id j that) [
        | inl b ↦ unique id i j a b
        | inr b ↦ absurd (free (subst (Contains ids) (sym b.1) (contained ids i id a)))
      ]
      | inr a ↦ elim (at_place ids new id j that) [
        | inl b ↦ absurd (free (subst (Contains ids) (sym a.1) (contained ids j id b)))
        | inr b ↦ a.0 ∙ sym b.0
      ]
    ]

pub table_push : (rows : List Invocation) (row : Invocation) → IsTable rows → (¬ HasId rows row.id) → length rows < 65_536
    → IsTable (rows ++ row ∷ [])
table_push rows row t free few = record {
  unique = subst AreUnique (sym (map_push (λ (r : Invocation). r.id) rows row)) (unique_push (ids_of rows) row.id t.unique free);
  few = omega (arith, length_push rows row);
}

pub table_none : IsTable []
table_none = record { unique = λ id i j this that. let no : None ≡ Some id = this in cc; few = lit≤ tt }

pub place_read : (rows : List Invocation) (place : ℕ) (row : Invocation) (id : List ℕ) → place < length rows
    → row ≡ get_or rows place row → row.id ≡ id → IsPlaceOf rows id place
place_read rows place row id within is same =
    slice_get-map (λ (r : Invocation). r.id) rows place
    ∙ subst (λ o. option_map (λ (r : Invocation). r.id) o ≡ Some id) (sym (slice_get_read rows (length rows) place row refl within is)) (ap Some same)
