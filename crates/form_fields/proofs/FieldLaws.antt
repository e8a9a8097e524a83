-- Fields of lawful kinds are lawful.
use Rattle.std.proofs.Common.{◌≡◌, ℕ, ◌+◌, ◌≤◌, ◌||◌, max, Bool, true, false, List, [], ◌∷◌, map, Option, Some, None, option_map, option_and_then, if◌then◌else◌, inl, inr, refl, sym, subst, ◌∙◌, arith}
use Rattle.std.specs.Prelude.{◌⊎◌, All}
use Rattle.std.specs.Option.{ForSome}
use Rattle.std.proofs.lemmas.List.Elements.{All-head, All-tail}
use Rattle.serde_json.specs.Data.{Data, null, boolean, number, string, array, object, Items, no_items, item, items_depth}
use Rattle.serde_json.specs.View.{items_of}
use Rattle.serde_json.specs.Written.{items_have_float}
use Rattle.json_fields.specs.Names.{NameForm}
use Rattle.json_fields.specs.Faults.{first}
use Rattle.json_fields.specs.Fields.{filled, filled_at, fault_optional, fault_required, list_of, member, optional, required, set_at, Holds, HoldsMaybe, Pairs}
use Rattle.json_fields.specs.Kinds.{a_list, empty_list, no_items_in, HoldsList, IsEach}
use Rattle.json_fields.specs.Writing.{AllWritten, is_bare, list_data}
use Rattle.json_fields.specs.declared.faults.FieldFault.{FieldFault}
use Rattle.json_fields.specs.declared.names.Step.TheVariants.{Member}
use Rattle.json_fields.proofs.FormLaws.{GivesForm, list_form, optional_form, optional_list_form, required_form}
use Rattle.json_fields.proofs.MeaningLaws.{each_one, first_left, first_right, holds_one, list_one, maybe_one, moved_none}
use Rattle.json_fields.proofs.PlainLaws.{IsPlain}
use Rattle.json_fields.proofs.WriteLaws.{filled_found, list_meant, list_no_fault, listed_written, optional_found, optional_lost, required_found, set_found, set_lost}
use Rattle.field_kinds.specs.Defaults.{HoldsOr}
use Rattle.field_kinds.specs.Filled.{optional_filled}
use Rattle.field_kinds.proofs.FilledLaws.{filled_form}
use Rattle.field_kinds.proofs.ReadValues.{IsReadValue}
use Rattle.field_kinds.proofs.ThereLaws.{there_each, there_or, there_or_filled, there_required}
use Rattle.form_fields.specs.Fields.{Fields, Kind, beside, both, default_field, filled_field, last, list_field, list_kind, optional_field, required_field, unused_field}
use Rattle.form_fields.specs.Members.{list_or_none}
use Rattle.form_fields.specs.Laws.{AreLawful, IsLawfulKind, MayBePlain}
use Rattle.form_fields.proofs.MemberLaws.{at_left, at_right, each_append, each_within, names_append}

-- ---- a field that must be set

chosen : (empty : Data → Bool) (d e : Data) (t : Bool) → empty d ≡ t → (if t then None else Some d) ≡ Some e → empty e ≡ false
chosen empty d e true is h = absurd cc
chosen empty d e false is h = let same : d ≡ e = cc in subst (λ (x : Data). empty x ≡ false) same is

not_empty : (empty : Data → Bool) (d e : Data) → filled empty d ≡ Some e → empty e ≡ false
not_empty empty null e h = absurd cc
not_empty empty (boolean b) e h = chosen empty (boolean b) e (empty (boolean b)) refl h
not_empty empty (number n) e h = chosen empty (number n) e (empty (number n)) refl h
not_empty empty (string s) e h = chosen empty (string s) e (empty (string s)) refl h
not_empty empty (array ds) e h = chosen empty (array ds) e (empty (array ds)) refl h
not_empty empty (object ms) e h = chosen empty (object ms) e (empty (object ms)) refl h

at_member : (empty : Data → Bool) (m : Option Data) (e : Data) → option_and_then (filled empty) m ≡ Some e → empty e ≡ false
at_member empty None e h = absurd cc
at_member empty (Some d) e h = not_empty empty d e h

-- the value of a field that must be set isn't empty
pub is_filled : (n : NameForm) (empty : Data → Bool) (d e : Data) → filled_at n empty d ≡ Some e → empty e ≡ false
unfolding filled_at
is_filled n empty d e h = at_member empty (member n d) e h

module _ {A : Type 0} (n : NameForm) (k : Kind A) (law : IsLawfulKind k) where
  not_blank : (o : Option Data) (a : A) → ((e : Data) → o ≡ Some e → k.empty e ≡ false) → fault_required n k.fault o ≡ None → Holds k.means o a
      → k.blank a ≡ false
  not_blank None a some none is = absurd is
  not_blank (Some d) a some none is = sym (law.told d a (moved_none (Member n) (k.fault d) none) is) ∙ some d refl

  filled_of_form : GivesForm (required n k.empty k.fault) (λ d. Holds k.means (filled_at n k.empty d)) (λ a. k.blank a ≡ false)
  unfolding required
  filled_of_form d a none is = not_blank (filled_at n k.empty d) a (λ e h. is_filled n k.empty d e h) none is

  pub required_lawful : AreLawful (required_field n k)
  required_lawful = record {
    one = λ d a b h i. holds_one k.means law.one (filled_at n k.empty d) a b h i;
    there = λ d is none. there_required k.fault k.means law.there n k.empty d is none;
    formed = λ d a none is. (required_form n k.empty k.fault k.means k.OfForm law.formed d a none is, filled_of_form d a none is);
    named = λ a. refl;
    again = λ a d is at.
        let w = law.again a is.0 in
        let some = w.emptiness ∙ is.1 in
        (required_found n d k.empty k.fault (k.json a) at.0 w.is_set some w.no_fault, rw (filled_found n d k.empty (k.json a) at.0 w.is_set some) w.meant);
    plain = λ a. (law.plain a, tt);
  }

-- ---- a field that may be unset

maybe_of : {A : Type 0} (means : Data → A → Type 0) (o : Option Data) (a : Option A) → HoldsOr (λ d x. HoldsMaybe means (Some d) x) None o a
    → HoldsMaybe means o a
maybe_of means None a h = rw h tt
maybe_of means (Some d) a h = h

maybe_plain : {A : Type 0} (n : ℕ) (json : A → Data) (o : Option A) → ((a : A) → IsPlain n (json a)) → MayBePlain n (option_map json o)
maybe_plain n json None h = tt
maybe_plain n json (Some a) h = h a

module _ {A : Type 0} (n : NameForm) (k : Kind A) (law : IsLawfulKind k) where
  some_there : (d : Data) → IsReadValue d → k.fault d ≡ None → (a : Option A) × HoldsMaybe k.means (Some d) a
  some_there d is none = let there = law.there d is none in (Some there.0, there.1)

  optional_there : (d : Data) → IsReadValue d → optional n k.fault d ≡ None → (a : Option A) × HoldsMaybe k.means (set_at n d) a
  optional_there d is none =
      let there = there_or k.fault (λ e x. HoldsMaybe k.means (Some e) x) some_there n None d is none in
      (there.0, maybe_of k.means (set_at n d) there.0 there.1)

  optional_again : (o : Option A) (d : Data) → ForSome o k.OfForm → member n d ≡ option_map k.json o
      → (optional n k.fault d ≡ None) × HoldsMaybe k.means (set_at n d) o
  optional_again None d is at = (optional_lost n d k.fault at, rw (set_lost n d at) tt)
  optional_again (Some a) d is at =
      let w = law.again a (is a refl) in
      (optional_found n d k.fault (k.json a) at w.is_set w.no_fault, rw (set_found n d (k.json a) at w.is_set) w.meant)

  pub optional_lawful : AreLawful (optional_field n k)
  optional_lawful = record {
    one = λ d a b h i. maybe_one k.means law.one (set_at n d) a b h i;
    there = optional_there;
    formed = λ d o none is. optional_form n k.fault k.means k.OfForm law.formed d o none is;
    named = λ o. refl;
    again = λ o d is at. optional_again o d is at.0;
    plain = λ o. (maybe_plain k.levels k.json o law.plain, tt);
  }

  -- ---- a field that may be unset or empty, of a kind whose values of the form aren't blank

  filled_there : (d : Data) → IsReadValue d → optional_filled n k.empty k.fault d ≡ None → (a : Option A) × HoldsMaybe k.means (filled_at n k.empty d) a
  filled_there d is none =
      let there = there_or_filled k.fault (λ e x. HoldsMaybe k.means (Some e) x) some_there n k.empty None d is none in
      (there.0, maybe_of k.means (filled_at n k.empty d) there.0 there.1)

  nothing_filled : (d : Data) → member n d ≡ None → filled_at n k.empty d ≡ None
  unfolding filled_at
  nothing_filled d none = rw none refl

  filled_again : ((a : A) → k.OfForm a → k.blank a ≡ false) → (o : Option A) (d : Data) → ForSome o k.OfForm → member n d ≡ option_map k.json o
      → (optional_filled n k.empty k.fault d ≡ None) × HoldsMaybe k.means (filled_at n k.empty d) o
  filled_again some None d is at = (rw (nothing_filled d at) refl, rw (nothing_filled d at) tt)
  filled_again some (Some a) d is at =
      let w = law.again a (is a refl) in
      let found = filled_found n d k.empty (k.json a) at w.is_set (w.emptiness ∙ some a (is a refl)) in
      (rw (found, w.no_fault) refl, rw found w.meant)

  pub filled_lawful : ((a : A) → k.OfForm a → k.blank a ≡ false) → AreLawful (filled_field n k)
  filled_lawful some = record {
    one = λ d a b h i. maybe_one k.means law.one (filled_at n k.empty d) a b h i;
    there = filled_there;
    formed = λ d o none is. filled_form n k.empty k.fault k.means k.OfForm law.formed d o none is;
    named = λ o. refl;
    again = λ o d is at. filled_again some o d is at.0;
    plain = λ o. (maybe_plain k.levels k.json o law.plain, tt);
  }

-- ---- a field with a default

or_one : {A : Type 0} (means : Data → A → Type 0) (default : A) → ((d : Data) (a b : A) → means d a → means d b → a ≡ b)
    → (o : Option Data) (a b : A) → HoldsOr means default o a → HoldsOr means default o b → a ≡ b
or_one means default law None a b h k = h ∙ sym k
or_one means default law (Some d) a b h k = law d a b h k

or_by : {A : Type 0} (n : NameForm) (fault : Data → Option FieldFault) (means : Data → A → Type 0) (default : A) (P : A → Type 0)
    → GivesForm fault means P → P default → (o : Option Data) (a : A) → fault_optional n fault o ≡ None → HoldsOr means default o a → P a
or_by n fault means default P law of None a none is = subst P (sym is) of
or_by n fault means default P law of (Some d) a none is = law d a (moved_none (Member n) (fault d) none) is

module _ {A : Type 0} (n : NameForm) (k : Kind A) (law : IsLawfulKind k) (default : A) (shown : A → Option Data) where
  or_formed : k.OfForm default → GivesForm (optional n k.fault) (λ d. HoldsOr k.means default (set_at n d)) k.OfForm
  unfolding optional
  or_formed of d a none is = or_by n k.fault k.means default k.OfForm law.formed of (set_at n d) a none is

  or_again : (a : A) (d : Data) → k.OfForm a → ((shown a ≡ None) × (a ≡ default)) ⊎ (shown a ≡ Some (k.json a)) → member n d ≡ shown a
      → (optional n k.fault d ≡ None) × HoldsOr k.means default (set_at n d) a
  or_again a d is (inl none) at = let lost = at ∙ none.0 in (optional_lost n d k.fault lost, rw (set_lost n d lost) none.1)
  or_again a d is (inr some) at =
      let w = law.again a is in
      let there = at ∙ some in
      (optional_found n d k.fault (k.json a) there w.is_set w.no_fault, rw (set_found n d (k.json a) there w.is_set) w.meant)

  -- the default is of the form, and what is shown is nothing for the default, or what is written
  pub default_lawful : k.OfForm default → ((a : A) → k.OfForm a → ((shown a ≡ None) × (a ≡ default)) ⊎ (shown a ≡ Some (k.json a)))
      → ((a : A) → MayBePlain k.levels (shown a)) → AreLawful (default_field n k default shown)
  default_lawful of right plain = record {
    one = λ d a b h i. or_one k.means default law.one (set_at n d) a b h i;
    there = λ d is none. there_or k.fault k.means law.there n default d is none;
    formed = or_formed of;
    named = λ a. refl;
    again = λ a d is at. or_again a d is (right a is) at.0;
    plain = λ a. (plain a, tt);
  }

-- ---- lists

bare : {A : Type 0} (means : Data → A → Type 0) (ds : Items) (xs : List A) → Pairs means (list_of ds) xs → no_items_in ds ≡ is_bare xs
bare means no_items [] all = refl
bare means no_items (x ∷ xs) all = absurd all
bare means (item d ds) [] all = absurd all
bare means (item d ds) (x ∷ xs) all = grind arith

pub each_told : {A : Type 0} (means : Data → A → Type 0) (d : Data) (xs : List A) → IsEach means d xs → empty_list d ≡ is_bare xs
each_told means null xs all = absurd all
each_told means (boolean b) xs all = absurd all
each_told means (number n) xs all = absurd all
each_told means (string s) xs all = absurd all
each_told means (array ds) xs all = bare means ds xs all
each_told means (object ms) xs all = absurd all

or_false : (a b : Bool) → a ≡ false → b ≡ false → (a || b) ≡ false
or_false a b ea eb = rw (ea, eb) refl

held_list : {A : Type 0} (means : Data → A → Type 0) (o : Option Data) (xs : List A) → HoldsOr (IsEach means) [] o xs → HoldsList means o xs
held_list means None xs h = h
held_list means (Some d) xs h = h

module _ {A : Type 0} (k : Kind A) (law : IsLawfulKind k) where
  each_written : (xs : List A) → All k.OfForm xs → AllWritten k.fault k.means k.empty k.blank k.json xs
  each_written [] all = tt
  each_written (x ∷ xs) all = (law.again x (All-head k.OfForm x xs all), each_written xs (All-tail k.OfForm x xs all))

  no_float : (xs : List A) → items_have_float (items_of (map k.json xs)) ≡ false
  no_float [] = refl
  no_float (x ∷ xs) = or_false _ _ (law.plain x).no_float (no_float xs)

  deep : (xs : List A) → items_depth (items_of (map k.json xs)) ≤ k.levels
  deep [] = omega arith
  deep (x ∷ xs) = omega (arith, (law.plain x).deep, deep xs)

  pub each_plain : (xs : List A) → IsPlain (k.levels + 1) (list_data k.json xs)
  each_plain xs = record { no_float = no_float xs; deep = omega (arith, deep xs) }

  pub list_lawful : IsLawfulKind (list_kind k)
  list_lawful = record {
    one = λ d xs ys h i. each_one k.means law.one d xs ys h i;
    there = there_each k.fault k.means law.there;
    formed = λ d xs none is. list_form k.fault k.means k.OfForm law.formed d xs none is;
    told = λ d xs none is. each_told k.means d xs is;
    again = λ xs all. listed_written k.fault k.means k.empty k.blank k.json xs (each_written xs all);
    plain = each_plain;
  }

  list_again : (n : NameForm) (xs : List A) (d : Data) → All k.OfForm xs → member n d ≡ list_or_none k.json xs
      → (optional n (a_list k.fault) d ≡ None) × HoldsList k.means (set_at n d) xs
  list_again n [] d all at = (optional_lost n d (a_list k.fault) at, rw (set_lost n d at) refl)
  list_again n (x ∷ xs) d all at =
      let w = each_written (x ∷ xs) all in
      let json = list_data k.json (x ∷ xs) in (
        optional_found n d (a_list k.fault) json at refl (list_no_fault k.fault k.means k.empty k.blank k.json (x ∷ xs) w),
        rw (set_found n d json at refl) (list_meant k.fault k.means k.empty k.blank k.json (x ∷ xs) w),
      )

  list_there : (n : NameForm) (d : Data) → IsReadValue d → optional n (a_list k.fault) d ≡ None → (xs : List A) × HoldsList k.means (set_at n d) xs
  list_there n d is none =
      let there = there_or (a_list k.fault) (IsEach k.means) (there_each k.fault k.means law.there) n [] d is none in
      (there.0, held_list k.means (set_at n d) there.0 there.1)

  shown_plain : (xs : List A) → MayBePlain (k.levels + 1) (list_or_none k.json xs)
  shown_plain [] = tt
  shown_plain (x ∷ xs) = each_plain (x ∷ xs)

  pub list_field_lawful : (n : NameForm) → AreLawful (list_field n k)
  list_field_lawful n = record {
    one = λ d xs ys h i. list_one k.means law.one (set_at n d) xs ys h i;
    there = list_there n;
    formed = λ d xs none is. optional_list_form n k.fault k.means k.OfForm law.formed d xs none is;
    named = λ xs. refl;
    again = λ xs d is at. list_again n xs d is at.0;
    plain = λ xs. (shown_plain xs, tt);
  }

-- ---- a field of which nothing is kept

pub unused_lawful : (n : NameForm) (fault : Data → Option FieldFault) → AreLawful (unused_field n fault)
unused_lawful n fault = record {
  one = λ d a b h i. refl;
  there = λ d is none. (tt, tt);
  formed = λ d a none is. tt;
  named = λ a. refl;
  again = λ a d is at. (optional_lost n d fault at.0, tt);
  plain = λ a. (tt, tt);
}

-- ---- fields after others

pub after_object : (o p q : Option FieldFault) → first (first o p) q ≡ first o (first p q)
after_object None p q = refl
after_object (Some f) p q = refl

pub both_lawful : {A B : Type 0} (f : Fields A) (g : Fields B) → AreLawful f → AreLawful g → AreLawful (both f g)
both_lawful f g one two = record {
  one = λ d a b h k i. (one.one d a.0 b.0 h.0 k.0 i, two.one d a.1 b.1 h.1 k.1 i);
  there = λ d is none.
      let left = one.there d is (first_left (f.fault d) (g.fault d) none) in
      let right = two.there d is (first_right (f.fault d) (g.fault d) none) in
      ((left.0, right.0), (left.1, right.1));
  formed = λ d v none is. (one.formed d v.0 (first_left (f.fault d) (g.fault d) none) is.0, two.formed d v.1 (first_right (f.fault d) (g.fault d) none) is.1);
  named = λ v. rw (names_append (f.members v.0) (g.members v.1), one.named v.0, two.named v.1) refl;
  again = λ v d is at.
      let left = one.again v.0 d is.0 (at_left d (f.members v.0) (g.members v.1) at) in
      let right = two.again v.1 d is.1 (at_right d (f.members v.0) (g.members v.1) at) in
      (rw (left.0, right.0) refl, (left.1, right.1));
  plain = λ v.
      let most : ℕ = max f.levels g.levels in
      each_append most (f.members v.0) (g.members v.1)
      (each_within f.levels most (f.members v.0) (omega arith) (one.plain v.0))
      (each_within g.levels most (g.members v.1) (omega arith) (two.plain v.1));
}

pub last_lawful : {A : Type 0} (f : Fields A) → AreLawful f → AreLawful (last f)
last_lawful f law = record {
  one = law.one;
  there = λ d is none. law.there d is (first_left (f.fault d) None none);
  formed = λ d v none is. law.formed d v (first_left (f.fault d) None none) is;
  named = law.named;
  again = λ v d is at. let read = law.again v d is at in (rw (read.0) refl, read.1);
  plain = law.plain;
}

-- ---- fields beside what others mean

module _ {A B : Type 0} (f : Fields A) (g : A → Fields B) (fault : Data → Option FieldFault) (names : List NameForm) (levels : ℕ)
    (one : AreLawful f) (two : (a : A) → AreLawful (g a)) where
  -- The fault is that of the fields beside what the first ones mean, which have the same names
  -- beside each value, and nest as much at most.
  pub beside_lawful : ((d : Data) (a : A) → f.fault d ≡ None → f.means d a → fault d ≡ (g a).fault d) → ((a : A) → (g a).names ≡ names)
      → ((a : A) → (g a).levels ≤ levels) → AreLawful (beside f g fault names levels)
  beside_lawful same named few = record {
    one = λ d a b h k.
        let left : a.0 ≡ b.0 = one.one d a.0 b.0 h.0 k.0 in
        let there : (g a.0).means d b.1 = subst (λ (x : A). (g x).means d b.1) (sym left) k.1 in
        let right : a.1 ≡ b.1 = (two a.0).one d a.1 b.1 h.1 there in
        λ i. (left i, right i);
    there = λ d is none.
        let no_left = first_left (f.fault d) (fault d) none in
        let left = one.there d is no_left in
        let right = (two left.0).there d is (sym (same d left.0 no_left left.1) ∙ first_right (f.fault d) (fault d) none) in
        ((left.0, right.0), (left.1, right.1));
    formed = λ d v none is.
        let no_left = first_left (f.fault d) (fault d) none in
        (one.formed d v.0 no_left is.0, (two v.0).formed d v.1 (sym (same d v.0 no_left is.0) ∙ first_right (f.fault d) (fault d) none) is.1);
    named = λ v. rw (names_append (f.members v.0) ((g v.0).members v.1), one.named v.0, (two v.0).named v.1, named v.0) refl;
    again = λ v d is at.
        let left = one.again v.0 d is.0 (at_left d (f.members v.0) ((g v.0).members v.1) at) in
        let right = (two v.0).again v.1 d is.1 (at_right d (f.members v.0) ((g v.0).members v.1) at) in
        (rw (left.0, same d v.0 left.0 left.1, right.0) refl, (left.1, right.1));
    plain = λ v.
        let most : ℕ = max f.levels levels in
        each_append most (f.members v.0) ((g v.0).members v.1)
        (each_within f.levels most (f.members v.0) (omega arith) (one.plain v.0))
        (each_within (g v.0).levels most ((g v.0).members v.1) (omega (arith, few v.0)) ((two v.0).plain v.1));
  }
