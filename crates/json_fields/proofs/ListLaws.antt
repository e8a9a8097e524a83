-- A list of elements, a turn at a time.
use Rattle.std.proofs.Common.{◌≡◌, ℕ, ◌+◌, ◌<◌, ◌≤◌, List, [], ◌∷◌, ◌++◌, length, drop, take, get_or, map, false, Option, Some, None, arith, refl, sym, ap, ◌∙◌, add-one}
use Rattle.std.specs.Prelude.{◌==◌}
use Rattle.std.proofs.Math.Seq.{drop-cons}
use Rattle.std.proofs.lemmas.List.{drop_all, take_more, map-append}
use Rattle.serde_json.specs.Data.{Data, array}
use Rattle.serde_json.specs.View.{view, items_view}
use Rattle.serde_json.specs.declared.value.Value.{Value}
use Rattle.json_fields.specs.Faults.{Says, here, first, moved}
use Rattle.json_fields.specs.declared.faults.FieldFault.{FieldFault}
use Rattle.json_fields.specs.Fields.{fault_from, list_of, Pairs}
use Rattle.json_fields.specs.Kinds.{no_items_in, an_unbuilt_list}
use Rattle.json_fields.specs.declared.faults.FaultKind.TheVariants.{BadValue}
use Rattle.json_fields.specs.declared.whys.Why.TheVariants.{NotBuilt}
use Rattle.json_fields.specs.declared.faults.ReadFault.{ReadFault}
use Rattle.json_fields.specs.declared.faults.ReadFault.TheVariants.{Memory, Field}
use Rattle.json_fields.specs.declared.names.Step.TheVariants.{Place}

pub list_of_view : (vs : List Value) → list_of (items_view vs) ≡ map view vs
list_of_view [] = refl
list_of_view (v ∷ vs) = ap (λ (ds : List Data). view v ∷ ds) (list_of_view vs)

-- a first fault is the fault of the whole
pub stops : (e : ReadFault) (a b : Option FieldFault) → Says e a → Says e (first a b)
stops Memory a b h = h
stops (Field f) a b h = rw h refl

step : (f : Data → Option FieldFault) (vs : List Value) (i : ℕ) (v : Value) → i < length vs
    → fault_from i f (map view (drop i vs)) ≡ first (moved (Place i) (f (view (get_or vs i v)))) (fault_from (i + 1) f (map view (drop (i + 1) vs)))
unfolding fault_from
step f vs i v h = ap (λ (s : List Value). fault_from i f (map view s)) (drop-cons vs i v h ∙ ap (λ n. get_or vs i v ∷ drop n vs) (sym (add-one i)))

pub list_more : (f : Data → Option FieldFault) (vs : List Value) (i : ℕ) (v : Value) → i < length vs → f (view (get_or vs i v)) ≡ None
    → fault_from i f (map view (drop i vs)) ≡ fault_from (i + 1) f (map view (drop (i + 1) vs))
list_more f vs i v h is = step f vs i v h ∙ ap (λ o. first (moved (Place i) o) (fault_from (i + 1) f (map view (drop (i + 1) vs)))) is

pub list_fault : (f : Data → Option FieldFault) (vs : List Value) (i : ℕ) (v : Value) (e : ReadFault) → i < length vs → Says e (moved (Place i) (f (view (get_or vs i v))))
    → Says e (fault_from i f (map view (drop i vs)))
list_fault f vs i v e h says = rw (step f vs i v h) (stops e _ _ says)

pub list_end : (f : Data → Option FieldFault) (vs : List Value) (i : ℕ) → length vs ≤ i → fault_from i f (map view (drop i vs)) ≡ None
unfolding fault_from
list_end f vs i h = rw (drop_all i vs h) refl

pairs_add : {A B : Type 0} (R : A → B → Type 0) (xs : List A) (ys : List B) (x : A) (y : B) → Pairs R xs ys → R x y → Pairs R (xs ++ x ∷ []) (ys ++ y ∷ [])
pairs_add R [] [] x y h one = (one, tt)
pairs_add R [] (b ∷ ys) x y h one = absurd h
pairs_add R (a ∷ xs) [] x y h one = absurd h
pairs_add R (a ∷ xs) (b ∷ ys) x y h one = (h.0, pairs_add R xs ys x y h.1 one)

pub pairs_more : {B : Type 0} (R : Data → B → Type 0) (vs : List Value) (ys : List B) (i : ℕ) (v : Value) (y : B) → i < length vs
    → Pairs R (map view (take i vs)) ys → R (view (get_or vs i v)) y → Pairs R (map view (take (i + 1) vs)) (ys ++ y ∷ [])
pairs_more R vs ys i v y h so one = rw (take_more vs i v h, map-append view (take i vs) (get_or vs i v ∷ [])) (pairs_add R (map view (take i vs)) ys _ y so one)

pub no_items_in-view : (vs : List Value) → no_items_in (items_view vs) ≡ (length vs == 0)
no_items_in-view [] = refl
no_items_in-view (v ∷ vs) = grind arith

pub unbuilt_view : (vs : List Value) → (length vs == 0) ≡ false → an_unbuilt_list (array (items_view vs)) ≡ Some (here (BadValue NotBuilt))
unbuilt_view [] h = grind arith
unbuilt_view (v ∷ vs) h = refl
