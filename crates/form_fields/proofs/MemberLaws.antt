-- Members of an object, of which some are left out, are found again, and the object nests little.
use Rattle.std.proofs.Common.{◌≡◌, ℕ, ◌+◌, ◌≤◌, Bool, true, false, List, [], ◌∷◌, ◌++◌, Option, Some, None, option_map, refl, ap, ◌∙◌, arith}
use Rattle.std.specs.Prelude.{◌&&◌}
use Rattle.serde_json.specs.Data.{Data, object, Members, no_members}
use Rattle.json_fields.specs.Names.{NameForm}
use Rattle.json_fields.specs.Fields.{member}
use Rattle.json_fields.specs.Writing.{put_list, put_optional}
use Rattle.json_fields.proofs.PlainLaws.{IsPlain, ArePlain, no_members_plain, plain-put, plain_object}
use Rattle.json_fields.proofs.WriteLaws.{differ, member_put, member_other}
use Rattle.form_fields.specs.Laws.{AreAt, EachPlain, MayBePlain, all_apart, apart_from, names_of, two_apart}
use Rattle.form_fields.specs.Members.{list_or_none, object_of, put_all, put_some}

and_left : (a b : Bool) → (a && b) ≡ true → a ≡ true
and_left true b e = refl
and_left false b e = e

and_right : (a b : Bool) → (a && b) ≡ true → b ≡ true
and_right true b e = e
and_right false b e = absurd cc

by_side : (q n : NameForm) (o : Option Data) (ms : Members) → two_apart q n ≡ true → member q (object (put_some n o ms)) ≡ member q (object ms)
by_side q n None ms h = refl
by_side q n (Some d) ms h =
    member_other q n d ms (and_left (differ q.camel n.camel) (differ q.proto n.camel) h) (and_right (differ q.camel n.camel) (differ q.proto n.camel) h)

found : (n : NameForm) (o : Option Data) (ms : Members) → member n (object ms) ≡ None → member n (object (put_some n o ms)) ≡ o
found n None ms none = none
found n (Some d) ms none = member_put n d ms

one_apart : (q n : NameForm) (ns : List NameForm) → apart_from q (n ∷ ns) ≡ true → two_apart q n ≡ true
one_apart q n ns h = and_left (two_apart q n) (two_apart n q) (and_left (two_apart q n && two_apart n q) (apart_from q ns) h)

other_apart : (q n : NameForm) (ns : List NameForm) → apart_from q (n ∷ ns) ≡ true → two_apart n q ≡ true
other_apart q n ns h = and_right (two_apart q n) (two_apart n q) (and_left (two_apart q n && two_apart n q) (apart_from q ns) h)

rest_apart : (q n : NameForm) (ns : List NameForm) → apart_from q (n ∷ ns) ≡ true → apart_from q ns ≡ true
rest_apart q n ns h = and_right (two_apart q n && two_apart n q) (apart_from q ns) h

lost : (q : NameForm) (members : List (NameForm × Option Data)) → apart_from q (names_of members) ≡ true → member q (object_of members) ≡ None
lost q [] h = refl
lost q (m ∷ rest) h =
    by_side q m.0 m.1 (put_all rest no_members) (one_apart q m.0 (names_of rest) h) ∙ lost q rest (rest_apart q m.0 (names_of rest) h)

kept : (n : NameForm) (o : Option Data) (ms : Members) (members : List (NameForm × Option Data)) → apart_from n (names_of members) ≡ true
    → AreAt (object ms) members → AreAt (object (put_some n o ms)) members
kept n o ms [] h all = tt
kept n o ms (m ∷ rest) h all =
    (by_side m.0 n o ms (other_apart n m.0 (names_of rest) h) ∙ all.0, kept n o ms rest (rest_apart n m.0 (names_of rest) h) all.1)

-- the members of an object are found in it
pub all_at : (members : List (NameForm × Option Data)) → all_apart (names_of members) ≡ true → AreAt (object_of members) members
all_at [] h = tt
all_at (m ∷ rest) h =
    let first = and_left (apart_from m.0 (names_of rest)) (all_apart (names_of rest)) h in
    let others = and_right (apart_from m.0 (names_of rest)) (all_apart (names_of rest)) h in
    (found m.0 m.1 (put_all rest no_members) (lost m.0 rest first), kept m.0 m.1 (put_all rest no_members) rest first (all_at rest others))

-- a member that may be left out, in the words of what writes it
pub put_optional_is : {A : Type 0} (n : NameForm) (json : A → Data) (o : Option A) (ms : Members) → put_optional n json o ms ≡ put_some n (option_map json o) ms
put_optional_is n json None ms = refl
put_optional_is n json (Some a) ms = refl

pub put_list_is : {A : Type 0} (n : NameForm) (json : A → Data) (xs : List A) (ms : Members) → put_list n json xs ms ≡ put_some n (list_or_none json xs) ms
put_list_is n json [] ms = refl
put_list_is n json (x ∷ xs) ms = refl

-- ---- members before others

pub at_left : (d : Data) (xs ys : List (NameForm × Option Data)) → AreAt d (xs ++ ys) → AreAt d xs
at_left d [] ys all = tt
at_left d (m ∷ xs) ys all = (all.0, at_left d xs ys all.1)

pub at_right : (d : Data) (xs ys : List (NameForm × Option Data)) → AreAt d (xs ++ ys) → AreAt d ys
at_right d [] ys all = all
at_right d (m ∷ xs) ys all = at_right d xs ys all.1

pub names_append : (xs ys : List (NameForm × Option Data)) → names_of (xs ++ ys) ≡ names_of xs ++ names_of ys
names_append [] ys = refl
names_append (m ∷ xs) ys = ap (λ (ns : List NameForm). m.0 ∷ ns) (names_append xs ys)

-- ---- no float, and few levels

some_plain : (n : ℕ) (name : NameForm) (o : Option Data) (ms : Members) → MayBePlain n o → ArePlain n ms → ArePlain n (put_some name o ms)
some_plain n name None ms h all = all
some_plain n name (Some d) ms h all = plain-put n name.camel d ms h all

all_plain : (n : ℕ) (members : List (NameForm × Option Data)) → EachPlain n members → ArePlain n (put_all members no_members)
all_plain n [] h = no_members_plain n
all_plain n (m ∷ rest) h = some_plain n m.0 m.1 (put_all rest no_members) h.0 (all_plain n rest h.1)

pub object_plain : (n : ℕ) (members : List (NameForm × Option Data)) → EachPlain n members → IsPlain (n + 1) (object_of members)
object_plain n members h = plain_object n (put_all members no_members) (all_plain n members h)

maybe_within : (m n : ℕ) (o : Option Data) → m ≤ n → MayBePlain m o → MayBePlain n o
maybe_within m n None few h = tt
maybe_within m n (Some d) few h = record { no_float = h.no_float; deep = omega (arith, few, h.deep) }

pub each_within : (m n : ℕ) (members : List (NameForm × Option Data)) → m ≤ n → EachPlain m members → EachPlain n members
each_within m n [] few h = tt
each_within m n (s ∷ rest) few h = (maybe_within m n s.1 few h.0, each_within m n rest few h.1)

pub each_append : (n : ℕ) (xs ys : List (NameForm × Option Data)) → EachPlain n xs → EachPlain n ys → EachPlain n (xs ++ ys)
each_append n [] ys hx hy = hy
each_append n (m ∷ xs) ys hx hy = (hx.0, each_append n xs ys hx.1 hy)
