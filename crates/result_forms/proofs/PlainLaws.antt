-- What is written of a row or of a batch has no float and nests little, so that its text is known.
use Rattle.std.proofs.Common.{◌≡◌, ◌≤◌, ◌+◌, ℕ, Bool, true, false, nat_lt, List, [], ◌∷◌, length, map, Option, Some, None, option_map, refl, arith}
use Rattle.std.specs.Prelude.{◌||◌, if◌then◌else◌, option_and_then, fold}
use Rattle.std.proofs.lemmas.Bool.{ltb-false}
use Rattle.serde_json.specs.Data.{Data, null, boolean, number, string, array, object, Members, no_members, put, depth, items_depth}
use Rattle.serde_json.specs.Read.{read}
use Rattle.serde_json.specs.View.{items_of}
use Rattle.serde_json.specs.Written.{has_float, items_have_float, compact_text}
use Rattle.names_realms.specs.declared.pairs.Pair.{Pair}
use Rattle.json_fields.specs.Faults.{here}
use Rattle.json_fields.specs.Writing.{list_data}
use Rattle.json_fields.specs.declared.faults.FieldFault.{FieldFault}
use Rattle.json_fields.specs.declared.faults.FaultKind.TheVariants.{BadValue}
use Rattle.json_fields.specs.declared.whys.Why.TheVariants.{NotWhole, TooLong, TooDeep}
use Rattle.json_fields.proofs.PlainLaws.{IsPlain, ArePlain, plain-put, plain_text, no_members_plain, plain_object}
use Rattle.field_kinds.specs.Properties.{a_properties, long_fault, deep_fault, empty_object}
use Rattle.field_kinds.specs.Variants.{def_name}
use Rattle.form_fields.specs.Laws.{MayBePlain}
use Rattle.form_fields.proofs.MemberLaws.{object_plain}
use Rattle.result_forms.specs.Names as name
use Rattle.result_forms.specs.Shown.{as_text, unless_empty, text_shown, flag_shown, put_pair, variant_shown, reason_of, unless_faulty, right_object, properties_shown}

weaker : (m n : ℕ) (d : Data) → m ≤ n → IsPlain m d → IsPlain n d
weaker m n d few h = record { no_float = h.no_float; deep = omega (arith, few, h.deep) }

filled_plain : (n : ℕ) (text : List ℕ) → MayBePlain n (unless_empty text)
filled_plain n [] = tt
filled_plain n (b ∷ bs) = plain_text n (b ∷ bs)

pub text_plain : (n : ℕ) (bytes : List ℕ) → MayBePlain n (text_shown bytes)
text_plain n bytes = filled_plain n (as_text bytes)

pub flag_plain : (n : ℕ) (on : Bool) → MayBePlain n (flag_shown on)
flag_plain n true = record { no_float = refl; deep = omega arith }
flag_plain n false = tt

or_false : (a b : Bool) → a ≡ false → b ≡ false → (a || b) ≡ false
or_false a b ea eb = rw (ea, eb) refl

items_no_float : {A : Type 0} (n : ℕ) (json : A → Data) (xs : List A) → ((a : A) → IsPlain n (json a)) → items_have_float (items_of (map json xs)) ≡ false
items_no_float n json [] h = refl
items_no_float n json (x ∷ xs) h = or_false _ _ (h x).no_float (items_no_float n json xs h)

items_deep : {A : Type 0} (n : ℕ) (json : A → Data) (xs : List A) → ((a : A) → IsPlain n (json a)) → items_depth (items_of (map json xs)) ≤ n
items_deep n json [] h = omega arith
items_deep n json (x ∷ xs) h = omega (arith, (h x).deep, items_deep n json xs h)

-- a list of plain values
pub list_plain : {A : Type 0} (n : ℕ) (json : A → Data) (xs : List A) → ((a : A) → IsPlain n (json a)) → IsPlain (n + 1) (list_data json xs)
list_plain n json xs h = record { no_float = items_no_float n json xs h; deep = omega (arith, items_deep n json xs h) }

pairs_plain : (ps : List Pair) (ms : Members) → ArePlain 1 ms → ArePlain 1 (fold put_pair ms ps)
pairs_plain [] ms h = h
pairs_plain (p ∷ ps) ms h =
    pairs_plain ps (put_pair ms p) (plain-put 1 (as_text p.key) (string (as_text p.value)) ms (plain_text 1 (as_text p.value)) h)

pub variant_plain : (v : List Pair) → MayBePlain 64 (variant_shown v)
variant_plain [] = tt
variant_plain (p ∷ ps) =
    let pairs : Members = fold put_pair no_members (p ∷ ps) in
    let def = plain_object 1 pairs (pairs_plain (p ∷ ps) no_members (no_members_plain 1)) in
    weaker 3 64 (object (put def_name.camel (object pairs) no_members)) (omega arith)
    (plain_object 2 (put def_name.camel (object pairs) no_members) (plain-put 2 def_name.camel (object pairs) no_members def (no_members_plain 2)))

pub reason_plain : (o : Option Data) → MayBePlain 0 o → MayBePlain 1 (option_map reason_of o)
reason_plain None h = tt
reason_plain (Some d) h = object_plain 0 ((name.primary_error_message, Some d) ∷ []) (h, tt)

-- ---- properties

not_deep : (d : Data) (t : Bool) → nat_lt 64 (depth d) ≡ t → (if t then Some (here (BadValue TooDeep)) else None) ≡ None → depth d ≤ 64
not_deep d true is h = absurd cc
not_deep d false is h = ltb-false 64 (depth d) is

not_long : (d : Data) (t : Bool) → (if t then Some (here (BadValue (TooLong (length (compact_text d))))) else deep_fault d) ≡ None → deep_fault d ≡ None
not_long d true h = absurd cc
not_long d false h = h

whole : (d : Data) (t : Bool) → has_float d ≡ t → (if t then Some (here (BadValue NotWhole)) else long_fault d) ≡ None → IsPlain 64 d
whole d true is h = absurd cc
whole d false is h = record {
  no_float = is;
  deep = not_deep d (nat_lt 64 (depth d)) refl (not_long d (nat_lt 8192 (length (compact_text d))) h);
}

pub right_plain : (d : Data) → a_properties d ≡ None → IsPlain 64 d
right_plain null h = absurd cc
right_plain (boolean b) h = absurd cc
right_plain (number n) h = absurd cc
right_plain (string s) h = absurd cc
right_plain (array ds) h = absurd cc
right_plain (object ms) h = whole (object ms) (has_float (object ms)) refl h

kept_plain : (d : Data) (t : Bool) → IsPlain 64 d → MayBePlain 64 (if t then None else Some d)
kept_plain d true h = tt
kept_plain d false h = h

unfaulty_plain : (d : Data) (o : Option FieldFault) → a_properties d ≡ o → MayBePlain 64 (unless_faulty o d)
unfaulty_plain d None e = kept_plain d (empty_object d) (right_plain d e)
unfaulty_plain d (Some f) e = tt

read_plain : (o : Option Data) → MayBePlain 64 (option_and_then right_object o)
read_plain None = tt
read_plain (Some d) = unfaulty_plain d (a_properties d) refl

pub properties_plain : (text : List ℕ) → MayBePlain 64 (properties_shown text)
properties_plain text = read_plain (read (as_text text))
