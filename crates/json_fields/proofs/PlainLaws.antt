-- What is written has no float and nests little, so that its text is known and is read again.
use Rattle.std.proofs.Common.{◌≡◌, ◌≤◌, ◌+◌, ℕ, List, [], ◌∷◌, map, Bool, true, false, ◌||◌, max, Option, Some, None, Ordering, Less, Equal, Greater, refl, arith}
use Rattle.std.specs.Ordering.{nat_cmp, match_ordering}
use Rattle.std.specs.Cmp.Lexicographic.{slice_cmp}
use Rattle.serde_json.specs.Data.{Data, string, array, object, Members, no_members, member, put, depth, items_depth, members_depth}
use Rattle.serde_json.specs.View.{items_of}
use Rattle.serde_json.specs.Written.{has_float, members_have_float, items_have_float}
use Rattle.json_fields.specs.Names.{NameForm}
use Rattle.json_fields.specs.Writing.{put_optional, put_list}

or_false : (a b : Bool) → a ≡ false → b ≡ false → (a || b) ≡ false
or_false a b ea eb = rw (ea, eb) refl

or_left : (a b : Bool) → (a || b) ≡ false → a ≡ false
or_left true b e = e
or_left false b e = refl

or_right : (a b : Bool) → (a || b) ≡ false → b ≡ false
or_right true b e = absurd cc
or_right false b e = e

-- no float, and at most so deep
pub record IsPlain (n : ℕ) (d : Data) : Type 0 where
  pub no_float : has_float d ≡ false
  pub deep : depth d ≤ n

pub record ArePlain (n : ℕ) (ms : Members) : Type 0 where
  pub no_float : members_have_float ms ≡ false
  pub deep : members_depth ms ≤ n

put_at : (o : Ordering) (n : ℕ) (k l : List ℕ) (d e : Data) (ms : Members) → IsPlain n d → IsPlain n e → ArePlain n ms → ArePlain n (put k d ms)
    → ArePlain n (match_ordering o (member k d (member l e ms)) (member l d ms) (member l e (put k d ms)))
put_at Less n k l d e ms fd fe fm later = record { no_float = or_false _ _ fd.no_float (or_false _ _ fe.no_float fm.no_float); deep = omega (arith, fd.deep, fe.deep, fm.deep) }
put_at Equal n k l d e ms fd fe fm later = record { no_float = or_false _ _ fd.no_float fm.no_float; deep = omega (arith, fd.deep, fm.deep) }
put_at Greater n k l d e ms fd fe fm later = record { no_float = or_false _ _ fe.no_float later.no_float; deep = omega (arith, fe.deep, later.deep) }

pub plain-put : (n : ℕ) (k : List ℕ) (d : Data) (ms : Members) → IsPlain n d → ArePlain n ms → ArePlain n (put k d ms)
plain-put n k d no_members fd fm = record { no_float = or_false _ _ fd.no_float refl; deep = omega (arith, fd.deep) }
plain-put n k d (member l e ms) fd fm =
    let deep : max (depth e) (members_depth ms) ≤ n = fm.deep in
    let fe : IsPlain n e = record { no_float = or_left (has_float e) (members_have_float ms) fm.no_float; deep = omega (arith, deep) } in
    let rest : ArePlain n ms = record { no_float = or_right (has_float e) (members_have_float ms) fm.no_float; deep = omega (arith, deep) } in
    put_at (slice_cmp nat_cmp k l) n k l d e ms fd fe rest (plain-put n k d ms fd rest)

pub plain_text : (n : ℕ) (s : List ℕ) → IsPlain n (string s)
plain_text n s = record { no_float = refl; deep = omega arith }

pub no_members_plain : (n : ℕ) → ArePlain n no_members
no_members_plain n = record { no_float = refl; deep = omega arith }

pub plain_object : (n : ℕ) (ms : Members) → ArePlain n ms → IsPlain (n + 1) (object ms)
plain_object n ms h = record { no_float = h.no_float; deep = omega (arith, h.deep) }

pub plain-put_optional : {A : Type 0} (n : ℕ) (name : NameForm) (json : A → Data) (o : Option A) (ms : Members)
    → ((a : A) → IsPlain n (json a)) → ArePlain n ms → ArePlain n (put_optional name json o ms)
plain-put_optional n name json None ms h fm = fm
plain-put_optional n name json (Some a) ms h fm = plain-put n name.camel (json a) ms (h a) fm

items_no_float : {A : Type 0} (n : ℕ) (json : A → Data) (xs : List A) → ((a : A) → IsPlain n (json a)) → items_have_float (items_of (map json xs)) ≡ false
items_no_float n json [] h = refl
items_no_float n json (x ∷ xs) h = or_false _ _ (h x).no_float (items_no_float n json xs h)

items_deep : {A : Type 0} (n : ℕ) (json : A → Data) (xs : List A) → ((a : A) → IsPlain n (json a)) → items_depth (items_of (map json xs)) ≤ n
items_deep n json [] h = omega arith
items_deep n json (x ∷ xs) h = omega (arith, (h x).deep, items_deep n json xs h)

pub plain-put_list : {A : Type 0} (n : ℕ) (name : NameForm) (json : A → Data) (xs : List A) (ms : Members)
    → ((a : A) → IsPlain n (json a)) → ArePlain (n + 1) ms → ArePlain (n + 1) (put_list name json xs ms)
plain-put_list n name json [] ms h fm = fm
plain-put_list n name json (x ∷ xs) ms h fm =
    plain-put (n + 1) name.camel (array (items_of (map json (x ∷ xs)))) ms
    (record { no_float = items_no_float n json (x ∷ xs) h; deep = omega (arith, items_deep n json (x ∷ xs) h) }) fm
