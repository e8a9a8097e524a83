-- Lists with a limit.
use Rattle.std.proofs.Common.{◌≡◌, ℕ, ◌≤◌, Bool, true, false, nat_lt, if◌then◌else◌, List, [], ◌∷◌, length, map, Option, Some, None, option_map, refl, sym, ap, subst, ◌∙◌, arith}
use Rattle.std.proofs.lemmas.Bool.{ltb-false}
use Rattle.std.proofs.lemmas.List.{length-map}
use Rattle.serde_json.specs.Data.{Data, null, boolean, number, string, array, object}
use Rattle.serde_json.specs.View.{view, items_view, items_of}
use Rattle.serde_json.specs.declared.value.Value.{Value}
use Rattle.json_fields.specs.Faults.{here}
use Rattle.json_fields.specs.Fields.{list_of, Pairs}
use Rattle.json_fields.specs.Kinds.{a_list, empty_list, IsEach}
use Rattle.json_fields.specs.Writing.{IsWritten, list_data, is_bare}
use Rattle.json_fields.specs.declared.faults.FieldFault.{FieldFault}
use Rattle.json_fields.specs.declared.faults.FaultKind.TheVariants.{BadValue}
use Rattle.json_fields.specs.declared.whys.Why.TheVariants.{TooMany}
use Rattle.json_fields.proofs.ListLaws.{list_of_view}
use Rattle.field_kinds.specs.Lists.{over, too_many, a_limited_list}

pub length_of_view : (vs : List Value) → length (list_of (items_view vs)) ≡ length vs
length_of_view vs = ap length (list_of_view vs) ∙ length-map vs view

pairs-length : {A B : Type 0} (R : A → B → Type 0) (xs : List A) (ys : List B) → Pairs R xs ys → length xs ≡ length ys
pairs-length R [] [] h = refl
pairs-length R [] (y ∷ ys) h = absurd h
pairs-length R (x ∷ xs) [] h = absurd h
pairs-length R (x ∷ xs) (y ∷ ys) h = let more = pairs-length R xs ys h.1 in omega (arith, more)

over-None : (most count : ℕ) (b : Bool) → nat_lt most count ≡ b → (if b then Some (here (BadValue (TooMany count))) else None) ≡ None → count ≤ most
over-None most count true t e = absurd cc
over-None most count false t e = ltb-false most count t

within : {A : Type 0} (means : Data → A → Type 0) (most : ℕ) (d : Data) (xs : List A) → too_many most d ≡ None → IsEach means d xs → length xs ≤ most
within means most null xs e h = absurd h
within means most (boolean b) xs e h = absurd h
within means most (number n) xs e h = absurd h
within means most (string s) xs e h = absurd h
within means most (array ds) xs e h =
    let few = over-None most (length (list_of ds)) _ refl e in
    let same = pairs-length means (list_of ds) xs h in
    omega (arith, few, same)
within means most (object ms) xs e h = absurd h

none_told : (o : Option ℕ) (r : Option FieldFault) → o ≡ None → option_map (λ n. here (BadValue (TooMany n))) o ≡ r → r ≡ None
none_told None r is e = sym e
none_told (Some n) r is e = absurd cc

pub limit_kept : {A : Type 0} (means : Data → A → Type 0) (most : ℕ) (d : Data) (xs : List A) (o : Option ℕ) → o ≡ None
    → option_map (λ n. here (BadValue (TooMany n))) o ≡ too_many most d → IsEach means d xs → length xs ≤ most
limit_kept means most d xs o is told h = within means most d xs (none_told o (too_many most d) is told) h

under_limit : (most count : ℕ) → count ≤ most → over most count ≡ None
under_limit most count few = let under : nat_lt most count ≡ false = grind arith in rw under refl

-- what is written of a list is read again
limited : {A : Type 0} (most : ℕ) (fault : Data → Option FieldFault) (means : Data → A → Type 0) (json : A → Data) (xs : List A)
    → IsWritten (a_list fault) (IsEach means) empty_list is_bare xs (list_data json xs) → length xs ≤ most
    → IsWritten (a_limited_list most fault) (IsEach means) empty_list is_bare xs (list_data json xs)
limited most fault means json xs w few =
    let same = pairs-length means (list_of (items_of (map json xs))) xs w.meant in
    let under : over most (length (list_of (items_of (map json xs)))) ≡ None = under_limit most _ (rw same few) in
    record {
      is_set = w.is_set;
      no_fault = rw under w.no_fault;
      meant = w.meant;
      emptiness = w.emptiness;
    }

pub limited_written : {A : Type 0} (most : ℕ) (fault : Data → Option FieldFault) (means : Data → A → Type 0) (json : A → Data) (ys xs : List A) → ys ≡ xs
    → IsWritten (a_list fault) (IsEach means) empty_list is_bare ys (list_data json ys) → length ys ≤ most
    → IsWritten (a_limited_list most fault) (IsEach means) empty_list is_bare xs (list_data json xs)
limited_written most fault means json ys xs same w few =
    subst (λ zs. IsWritten (a_limited_list most fault) (IsEach means) empty_list is_bare zs (list_data json zs)) same (limited most fault means json ys w few)
