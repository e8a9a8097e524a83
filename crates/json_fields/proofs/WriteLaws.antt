-- What is written is read again: texts, tags and lists.
use Rattle.std.proofs.Common.{◌≡◌, ℕ, ◌+◌, ◌==◌, ◌<◌, if◌then◌else◌, Bool, true, false, List, [], ◌∷◌, ◌++◌, length, map, take, get_or, Option, Some, None, Result, Ok, Err, OnOk, IfSome, refl, ap, subst, ◌∙◌, arith}
use Rattle.std.proofs.lemmas.List.{take_more, map-append}
use Rattle.names_realms.specs.NameParts.declared.faults.NameFault.{NameFault}
use Rattle.names_realms.specs.NameParts.declared.faults.NameFault.TheVariants.{Empty}
use Rattle.serde_json.specs.Data.{Data, null, boolean, number, string, array, object, Members, put}
use Rattle.serde_json.specs.View.{items_of}
use Rattle.json_fields.specs.Names.{NameForm}
use Rattle.json_fields.specs.Fields.{set, filled, member, required, optional, set_at, filled_at, fault_from, list_of, Pairs, HoldsMaybe}
use Rattle.json_fields.specs.Kinds.{a_list, empty_list, empty_text, no_items_in, IsEach, HoldsList}
use Rattle.json_fields.specs.Texts.{a_text, IsText}
use Rattle.serde_json.proofs.Views.{get_member-put, get_member-put_other}
use Rattle.json_fields.specs.Writing.{IsWritten, IsSpelled, AllWritten, list_data, is_bare, put_optional, put_list}
use Rattle.json_fields.specs.declared.faults.FieldFault.{FieldFault}

pub always : {A E : Type 0} (P : Type 0) (r : Result A E) → P → OnOk r P
always P (Ok a) h = h
always P (Err e) h = tt

-- a text by which a value is read again
pub spelled_out : {A : Type 0} (fault : List ℕ → Option NameFault) (spells : List ℕ → A → Type 0) (text : List ℕ) (a : A)
    → fault [] ≡ Some Empty → fault text ≡ None → spells text a → IsSpelled fault spells text a
spelled_out fault spells text a empty none is = record {
  filled = λ e. let f : fault text ≡ Some Empty = ap fault e ∙ empty in absurd cc;
  no_fault = none;
  spelled = is;
}

not_empty : (text : List ℕ) → (text ≡ [] → ⊥) → (length text == 0) ≡ false
not_empty [] h = absurd (h refl)
not_empty (b ∷ bs) h = grind arith

pub text_written : {A : Type 0} (fault : List ℕ → Option NameFault) (spells : List ℕ → A → Type 0) (text : List ℕ) (a : A)
    → IsSpelled fault spells text a → IsWritten (a_text fault) (IsText spells) empty_text (λ _. false) a (string text)
text_written fault spells text a s = record {
  is_set = refl;
  no_fault = rw s.no_fault refl;
  meant = s.spelled;
  emptiness = not_empty text s.filled;
}

-- two texts differ
abbrev pub differ : List ℕ → List ℕ → Bool
differ [] [] = false
differ [] (y ∷ ys) = true
differ (x ∷ xs) [] = true
differ (x ∷ xs) (y ∷ ys) = if x == y then differ xs ys else true

differ_same : (s : List ℕ) → differ s s ≡ false
differ_same [] = refl
differ_same (x ∷ s) = grind (arith, differ_same s)

other : (s t : List ℕ) → differ s t ≡ true → s ≡ t → ⊥
other s t h e =
    let k : differ t t ≡ true = subst (λ (x : List ℕ). differ x t ≡ true) e h in
    let f : differ t t ≡ false = differ_same t in
    grind arith

-- the member that was put, and one under other names
pub member_put : (n : NameForm) (d : Data) (ms : Members) → member n (object (put n.camel d ms)) ≡ Some d
member_put n d ms = rw (get_member-put n.camel d ms) refl

pub member_other : (q n : NameForm) (d : Data) (ms : Members) → differ q.camel n.camel ≡ true → differ q.proto n.camel ≡ true
    → member q (object (put n.camel d ms)) ≡ member q (object ms)
member_other q n d ms one two =
    rw (get_member-put_other q.camel n.camel d ms (other q.camel n.camel one), get_member-put_other q.proto n.camel d ms (other q.proto n.camel two)) refl

list_of_items : (ds : List Data) → list_of (items_of ds) ≡ ds
list_of_items [] = refl
list_of_items (d ∷ ds) = ap (λ (es : List Data). d ∷ es) (list_of_items ds)

is_filled : (empty : Data → Bool) (d : Data) → set d ≡ Some d → empty d ≡ false → filled empty d ≡ Some d
is_filled empty null h e = grind arith
is_filled empty (boolean b) h e = rw e refl
is_filled empty (number x) h e = rw e refl
is_filled empty (string s) h e = rw e refl
is_filled empty (array ds) h e = rw e refl
is_filled empty (object ms) h e = rw e refl

module _ {A : Type 0} (fault : Data → Option FieldFault) (means : Data → A → Type 0) (empty : Data → Bool) (blank : A → Bool) (json : A → Data) where
  one_more : (xs : List A) (x : A) → AllWritten fault means empty blank json xs → IsWritten fault means empty blank x (json x)
      → AllWritten fault means empty blank json (xs ++ x ∷ [])
  one_more [] x all one = (one, tt)
  one_more (y ∷ ys) x all one = (all.0, one_more ys x all.1 one)

  pub written_more : (xs : List A) (i : ℕ) (x : A) → i < length xs → AllWritten fault means empty blank json (take i xs)
      → IsWritten fault means empty blank (get_or xs i x) (json (get_or xs i x)) → AllWritten fault means empty blank json (take (i + 1) xs)
  written_more xs i x h all one = rw (take_more xs i x h) (one_more (take i xs) (get_or xs i x) all one)

  pub values_more : (xs : List A) (i : ℕ) (x : A) → i < length xs → map json (take (i + 1) xs) ≡ map json (take i xs) ++ json (get_or xs i x) ∷ []
  values_more xs i x h = rw (take_more xs i x h) (map-append json (take i xs) (get_or xs i x ∷ []))

  fault_from_written : (k : ℕ) (xs : List A) → AllWritten fault means empty blank json xs → fault_from k fault (map json xs) ≡ None
  unfolding fault_from
  fault_from_written k [] all = refl
  fault_from_written k (x ∷ xs) all = rw (all.0.no_fault, fault_from_written (k + 1) xs all.1) refl

  pairs_written : (xs : List A) → AllWritten fault means empty blank json xs → Pairs means (map json xs) xs
  pairs_written [] all = tt
  pairs_written (x ∷ xs) all = (all.0.meant, pairs_written xs all.1)

  -- a list that is written has no fault, and means the values
  pub list_no_fault : (xs : List A) → AllWritten fault means empty blank json xs → a_list fault (array (items_of (map json xs))) ≡ None
  list_no_fault xs all = rw (list_of_items (map json xs)) (fault_from_written 0 xs all)

  pub list_meant : (xs : List A) → AllWritten fault means empty blank json xs → IsEach means (array (items_of (map json xs))) xs
  list_meant xs all = rw (list_of_items (map json xs)) (pairs_written xs all)

  bare : (xs : List A) → no_items_in (items_of (map json xs)) ≡ is_bare xs
  bare [] = refl
  bare (x ∷ xs) = let some : is_bare (x ∷ xs) ≡ false = grind arith in rw some refl

  pub listed_written : (xs : List A) → AllWritten fault means empty blank json xs
      → IsWritten (a_list fault) (IsEach means) empty_list is_bare xs (list_data json xs)
  listed_written xs all = record { is_set = refl; no_fault = list_no_fault xs all; meant = list_meant xs all; emptiness = bare xs }

-- a member that is there, or isn't
module _ (n : NameForm) (d : Data) where
  pub set_found : (x : Data) → member n d ≡ Some x → set x ≡ Some x → set_at n d ≡ Some x
  unfolding set_at
  set_found x there s = rw (there, s) refl

  pub set_lost : member n d ≡ None → set_at n d ≡ None
  unfolding set_at
  set_lost none = rw none refl

  pub optional_found : (fault : Data → Option FieldFault) (x : Data) → member n d ≡ Some x → set x ≡ Some x → fault x ≡ None → optional n fault d ≡ None
  unfolding optional
  optional_found fault x there s none = rw (set_found x there s, none) refl

  pub optional_lost : (fault : Data → Option FieldFault) → member n d ≡ None → optional n fault d ≡ None
  unfolding optional
  optional_lost fault none = rw (set_lost none) refl

  pub filled_found : (empty : Data → Bool) (x : Data) → member n d ≡ Some x → set x ≡ Some x → empty x ≡ false → filled_at n empty d ≡ Some x
  unfolding filled_at
  filled_found empty x there s e = rw there (is_filled empty x s e)

  pub required_found : (empty : Data → Bool) (fault : Data → Option FieldFault) (x : Data) → member n d ≡ Some x → set x ≡ Some x → empty x ≡ false → fault x ≡ None
      → required n empty fault d ≡ None
  unfolding required
  required_found empty fault x there s e none = rw (filled_found empty x there s e, none) refl

-- a field whose member is that of another value
pub kept_none : (n : NameForm) (fault : Data → Option FieldFault) (d e : Data) → member n d ≡ member n e → optional n fault e ≡ None → optional n fault d ≡ None
unfolding optional set_at
kept_none n fault d e same h = rw same h

pub kept_set : (n : NameForm) (d e : Data) → member n d ≡ member n e → set_at n d ≡ set_at n e
unfolding set_at
kept_set n d e same = rw same refl

-- a member beside one that may be left out
pub member_beside_optional : {A : Type 0} (q n : NameForm) (json : A → Data) (o : Option A) (ms : Members) → differ q.camel n.camel ≡ true → differ q.proto n.camel ≡ true
    → member q (object (put_optional n json o ms)) ≡ member q (object ms)
member_beside_optional q n json None ms one two = refl
member_beside_optional q n json (Some a) ms one two = member_other q n (json a) ms one two

pub member_beside_list : {A : Type 0} (q n : NameForm) (json : A → Data) (xs : List A) (ms : Members) → differ q.camel n.camel ≡ true → differ q.proto n.camel ≡ true
    → member q (object (put_list n json xs ms)) ≡ member q (object ms)
member_beside_list q n json [] ms one two = refl
member_beside_list q n json (x ∷ xs) ms one two = member_other q n (array (items_of (map json (x ∷ xs)))) ms one two

-- a field that may be left out
module _ {A : Type 0} (fault : Data → Option FieldFault) (means : Data → A → Type 0) (empty : Data → Bool) (blank : A → Bool) (json : A → Data) (n : NameForm) where
  pub optional_written : (o : Option A) (ms : Members) → member n (object ms) ≡ None → IfSome o (λ a. IsWritten fault means empty blank a (json a))
      → (optional n fault (object (put_optional n json o ms)) ≡ None) × HoldsMaybe means (set_at n (object (put_optional n json o ms))) o
  optional_written None ms none w = (optional_lost n (object ms) fault none, rw (set_lost n (object ms) none) tt)
  optional_written (Some a) ms none w =
      let there = member_put n (json a) ms in
      (optional_found n _ fault (json a) there w.is_set w.no_fault, rw (set_found n _ (json a) there w.is_set) w.meant)

  pub list_written : (xs : List A) (ms : Members) → member n (object ms) ≡ None → AllWritten fault means empty blank json xs
      → (optional n (a_list fault) (object (put_list n json xs ms)) ≡ None) × HoldsList means (set_at n (object (put_list n json xs ms))) xs
  list_written [] ms none all = (optional_lost n (object ms) (a_list fault) none, rw (set_lost n (object ms) none) refl)
  list_written (x ∷ xs) ms none all =
      let there = member_put n (array (items_of (map json (x ∷ xs)))) ms in (
        optional_found n _ (a_list fault) _ there refl (list_no_fault fault means empty blank json (x ∷ xs) all),
        rw (set_found n _ _ there refl) (list_meant fault means empty blank json (x ∷ xs) all),
      )
