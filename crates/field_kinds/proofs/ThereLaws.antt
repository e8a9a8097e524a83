-- What is there in a value that was read: its fields and elements were read, too, so that a field
-- without a fault means something.
use Rattle.std.proofs.Common.{◌≡◌, ℕ, ◌+◌, Bool, true, false, List, [], ◌∷◌, Option, Some, None, option_and_then, refl}
use Rattle.std.specs.Prelude.{⊤, if◌then◌else◌}
use Rattle.std.specs.Ordering.{nat_cmp, match_ordering}
use Rattle.std.specs.Cmp.Lexicographic.{slice_cmp}
use Rattle.std.specs.declared.cmp.Ordering.{Ordering}
use Rattle.std.specs.declared.cmp.Ordering.TheVariants.{Less, Equal, Greater}
use Rattle.std.proofs.lemmas.List.Sorted.{IsPermutation-refl}
use Rattle.serde_json.specs.Data.{Data, null, boolean, number, string, array, object, Items, no_items, item, Members, no_members}
use Rattle.serde_json.specs.Data as made
use Rattle.serde_json.specs.Find.{get, get_member}
use Rattle.json_fields.specs.NamesRealms.declared.pairs.Pair.{Pair}
use Rattle.json_fields.specs.NamesRealms.Variants.{IsAscending}
use Rattle.json_fields.specs.Names.{NameForm}
use Rattle.json_fields.specs.Faults.{moved}
use Rattle.json_fields.specs.Fields.{or_else, member, set, filled, set_at, filled_at, fault_required, fault_optional, required, optional, fault_from, list_of, Pairs, Holds}
use Rattle.json_fields.specs.Kinds.{a_list, IsEach}
use Rattle.json_fields.specs.declared.faults.FieldFault.{FieldFault}
use Rattle.json_fields.specs.declared.names.Step.TheVariants.{Member, Place}
use Rattle.json_fields.proofs.MeaningLaws.{first_left, first_right, moved_none}
use Rattle.field_kinds.specs.Defaults.{HoldsOr}
use Rattle.field_kinds.specs.Filled.{optional_filled}
use Rattle.field_kinds.specs.Variants.{def_name, pairs_of, pairs_in, pairs_at, a_variant, IsVariant}
use Rattle.field_kinds.proofs.ReadValues.{IsReadValue, AreReadItems, AreReadMembers}

abbrev MayBeRead : Option Data → Type 0
MayBeRead None = ⊤
MayBeRead (Some d) = IsReadValue d

then_read : (f : Data → Option Data) → ((d : Data) → IsReadValue d → MayBeRead (f d)) → (o : Option Data) → MayBeRead o → MayBeRead (option_and_then f o)
then_read f law None is = tt
then_read f law (Some d) is = law d is

at_order : (o : Ordering) (a b c : Option Data) → MayBeRead a → MayBeRead b → MayBeRead c → MayBeRead (match_ordering o a b c)
at_order Less a b c one two three = one
at_order Equal a b c one two three = two
at_order Greater a b c one two three = three

among_members : (k : List ℕ) (ms : Members) → AreReadMembers ms → MayBeRead (get_member k ms)
among_members k no_members all = tt
among_members k (made.member l e ms) all =
    let rest = among_members k ms all.3 in
    at_order (slice_cmp nat_cmp k l) (get_member k ms) (Some e) (get_member k ms) rest all.1 rest

got_read : (k : List ℕ) (d : Data) → IsReadValue d → MayBeRead (get k d)
got_read k null is = tt
got_read k (boolean b) is = tt
got_read k (number n) is = tt
got_read k (string s) is = tt
got_read k (array ds) is = tt
got_read k (object ms) is = among_members k ms is

either_read : (a b : Option Data) → MayBeRead a → MayBeRead b → MayBeRead (or_else a b)
either_read None b one two = two
either_read (Some d) b one two = one

member_read : (n : NameForm) (d : Data) → IsReadValue d → MayBeRead (member n d)
member_read n d is = either_read (get n.camel d) (get n.proto d) (got_read n.camel d is) (got_read n.proto d is)

set_read : (d : Data) → IsReadValue d → MayBeRead (set d)
set_read null is = tt
set_read (boolean b) is = is
set_read (number n) is = is
set_read (string s) is = is
set_read (array ds) is = is
set_read (object ms) is = is

unless_read : (t : Bool) (d : Data) → IsReadValue d → MayBeRead (if t then None else Some d)
unless_read true d is = tt
unless_read false d is = is

filled_read : (empty : Data → Bool) (d : Data) → IsReadValue d → MayBeRead (filled empty d)
filled_read empty null is = tt
filled_read empty (boolean b) is = unless_read (empty (boolean b)) (boolean b) is
filled_read empty (number n) is = unless_read (empty (number n)) (number n) is
filled_read empty (string s) is = unless_read (empty (string s)) (string s) is
filled_read empty (array ds) is = unless_read (empty (array ds)) (array ds) is
filled_read empty (object ms) is = unless_read (empty (object ms)) (object ms) is

set_at_read : (n : NameForm) (d : Data) → IsReadValue d → MayBeRead (set_at n d)
unfolding set_at
set_at_read n d is = then_read set set_read (member n d) (member_read n d is)

filled_at_read : (n : NameForm) (empty : Data → Bool) (d : Data) → IsReadValue d → MayBeRead (filled_at n empty d)
unfolding filled_at
filled_at_read n empty d is = then_read (filled empty) (filled_read empty) (member n d) (member_read n d is)

-- ---- a kind of which each value that was read, and has no fault, means something

abbrev pub IsThere : {A : Type 0} → (Data → Option FieldFault) → (Data → A → Type 0) → Type 0
IsThere {A} fault means = (d : Data) → IsReadValue d → fault d ≡ None → (a : A) × means d a

module _ {A : Type 0} (fault : Data → Option FieldFault) (means : Data → A → Type 0) (law : IsThere fault means) where
  by_required : (n : NameForm) (o : Option Data) → MayBeRead o → fault_required n fault o ≡ None → (a : A) × Holds means o a
  by_required n None is h = absurd cc
  by_required n (Some d) is h = law d is (moved_none (Member n) (fault d) h)

  pub there_required : (n : NameForm) (empty : Data → Bool) (d : Data) → IsReadValue d → required n empty fault d ≡ None → (a : A) × Holds means (filled_at n empty d) a
  unfolding required
  there_required n empty d is h = by_required n (filled_at n empty d) (filled_at_read n empty d is) h

  by_default : (n : NameForm) (default : A) (o : Option Data) → MayBeRead o → fault_optional n fault o ≡ None → (a : A) × HoldsOr means default o a
  by_default n default None is h = (default, refl)
  by_default n default (Some d) is h = law d is (moved_none (Member n) (fault d) h)

  -- a field with a default
  pub there_or : (n : NameForm) (default : A) (d : Data) → IsReadValue d → optional n fault d ≡ None → (a : A) × HoldsOr means default (set_at n d) a
  unfolding optional
  there_or n default d is h = by_default n default (set_at n d) (set_at_read n d is) h

  pub there_or_filled : (n : NameForm) (empty : Data → Bool) (default : A) (d : Data) → IsReadValue d → optional_filled n empty fault d ≡ None
      → (a : A) × HoldsOr means default (filled_at n empty d) a
  there_or_filled n empty default d is h = by_default n default (filled_at n empty d) (filled_at_read n empty d is) h

  by_elements : (k : ℕ) (ds : Items) → AreReadItems ds → fault_from k fault (list_of ds) ≡ None → (xs : List A) × Pairs means (list_of ds) xs
  unfolding fault_from
  by_elements k no_items all h = ([], tt)
  by_elements k (item d ds) all h =
      let one = law d all.0 (moved_none (Place k) (fault d) (first_left (moved (Place k) (fault d)) (fault_from (k + 1) fault (list_of ds)) h)) in
      let rest = by_elements (k + 1) ds all.1 (first_right (moved (Place k) (fault d)) (fault_from (k + 1) fault (list_of ds)) h) in
      (one.0 ∷ rest.0, (one.1, rest.1))

  pub there_each : IsThere (a_list fault) (IsEach means)
  there_each null is h = absurd cc
  there_each (boolean b) is h = absurd cc
  there_each (number n) is h = absurd cc
  there_each (string s) is h = absurd cc
  there_each (array ds) is h = by_elements 0 ds is h
  there_each (object ms) is h = absurd cc

-- ---- variants

rising : (ms : Members) → AreReadMembers ms → IsAscending (pairs_of ms)
rising no_members all = tt
rising (made.member k d no_members) all = tt
rising (made.member k d (made.member l e ms)) all = (all.2, rising (made.member l e ms) all.3)

rising_in : (d : Data) → IsReadValue d → IsAscending (pairs_in d)
rising_in null is = tt
rising_in (boolean b) is = tt
rising_in (number n) is = tt
rising_in (string s) is = tt
rising_in (array ds) is = tt
rising_in (object ms) is = rising ms is

rising_at : (o : Option Data) → MayBeRead o → IsAscending (pairs_at o)
rising_at None is = tt
rising_at (Some d) is = rising_in d is

pub variant_there : IsThere a_variant IsVariant
variant_there d is h =
    let pairs : List Pair = pairs_at (set_at def_name d) in
    (pairs, record { pairs = IsPermutation-refl pairs; order = rising_at (set_at def_name d) (set_at_read def_name d is) })
