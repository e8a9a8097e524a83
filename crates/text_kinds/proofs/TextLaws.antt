-- Texts that are the value itself, and the ids of requests.
use Rattle.std.proofs.Common.{◌≡◌, ◌≢◌, ◌≤◌, ℕ, true, false, not, nat_lt, List, [], ◌∷◌, length, Option, Some, None, refl, sym, subst, arith}
use Rattle.std.specs.List.{All, list_all, position, position_or_len}
use Rattle.std.proofs.lemmas.Bool.{and_from, and_parts}
use Rattle.std.proofs.lemmas.Bool.Decides.{nat_tests}
use Rattle.std.proofs.lemmas.List.Elements.{All-cons, All-head, All-nil, All-tail}
use Rattle.serde_json.specs.Data.{Data, null, boolean, number, string, array, object}
use Rattle.json_fields.specs.Texts.{bad_value, IsText, IsSame}
use Rattle.json_fields.specs.declared.whys.Why.{Why}
use Rattle.json_fields.proofs.FormLaws.{GivesForm}
use Rattle.text_kinds.specs.Laws.{OnlyRequestIdsAreRead}
use Rattle.text_kinds.specs.Texts.{a_request_id, a_string, inked, is_blank, request_id_why, IsRequestId}
use Rattle.text_kinds.proofs.HashLaws.{all_good, good_all, has_no_fault, no_fault, untold}

-- a text that is the value itself, by why it is refused
pub string_there : (why : List ℕ → Option Why) (d : Data) → a_string why d ≡ None → (a : List ℕ) × IsText IsSame d a
string_there why null h = absurd cc
string_there why (boolean b) h = absurd cc
string_there why (number n) h = absurd cc
string_there why (string s) h = (s, refl)
string_there why (array ds) h = absurd cc
string_there why (object ms) h = absurd cc

good_value : (o : Option Why) → bad_value o ≡ None → o ≡ None
good_value None h = refl
good_value (Some why) h = absurd cc

pub string_form : (why : List ℕ → Option Why) (P : List ℕ → Type 0) → ((s : List ℕ) → why s ≡ None → P s) → GivesForm (a_string why) (IsText IsSame) P
string_form why P law null a none is = absurd is
string_form why P law (boolean b) a none is = absurd is
string_form why P law (number n) a none is = absurd is
string_form why P law (string s) a none is = subst P (sym is) (law s (good_value (why s) none))
string_form why P law (array ds) a none is = absurd is
string_form why P law (object ms) a none is = absurd is

-- the bytes of the ids of requests
abbrev IsInk : ℕ → Type 0
IsInk b = (33 ≤ b) × (b ≤ 126)

is_inked : (b : ℕ) → inked b ≡ true → IsInk b
is_inked b e = (grind (arith, nat_tests), grind (arith, nat_tests))

inked_is : (b : ℕ) → 33 ≤ b → b ≤ 126 → inked b ≡ true
inked_is b low high = grind (arith, nat_tests)

all_inked : (text : List ℕ) → list_all inked text ≡ true → All IsInk text
all_inked [] e = All-nil IsInk
all_inked (b ∷ bs) e =
    let both = and_parts (inked b) (list_all inked bs) e in
    All-cons IsInk b bs (is_inked b both.0) (all_inked bs both.1)

inked_all : (text : List ℕ) → All IsInk text → list_all inked text ≡ true
inked_all [] all = refl
inked_all (b ∷ bs) all =
    let one = All-head IsInk b bs all in
    and_from (inked b) (list_all inked bs) (inked_is b one.0 one.1) (inked_all bs (All-tail IsInk b bs all))

not_bare : (text : List ℕ) → nat_lt (length text) 1 ≡ false → text ≢ []
not_bare [] few e = absurd cc
not_bare (b ∷ bs) few e = cc

some_bytes : (text : List ℕ) → text ≢ [] → nat_lt (length text) 1 ≡ false
some_bytes [] some = absurd (some refl)
some_bytes (b ∷ bs) some = grind (arith, nat_tests)

pub request_id_form : (text : List ℕ) → request_id_why text ≡ None → IsRequestId text
request_id_form text e =
    let faults = no_fault (nat_lt (length text) 1) (nat_lt 36 (length text)) (length text) (position (λ b. not (inked b)) text) e in
    record {
      filled = not_bare text faults.0;
      few = grind (arith, nat_tests, faults.1);
      bytes = all_inked text (all_good inked text (untold _ _ faults.2));
    }

is_no_fault : (text : List ℕ) → IsRequestId text → request_id_why text ≡ None
is_no_fault text is =
    let long : nat_lt 36 (length text) ≡ false = grind (arith, nat_tests, is.few) in
    has_no_fault (nat_lt (length text) 1) (nat_lt 36 (length text)) (length text) _ (some_bytes text is.filled) long
    (let place : nat_lt (position_or_len (λ b. not (inked b)) text) (length text) ≡ false = good_all inked text (inked_all text is.bytes) in rw place refl)

pub only_request_ids_are_read : OnlyRequestIdsAreRead
only_request_ids_are_read text = (request_id_form text, is_no_fault text)

-- what is read as the id of a request is one, and isn't empty
pub read_form : GivesForm a_request_id (IsText IsSame) IsRequestId
read_form = string_form request_id_why IsRequestId request_id_form

pub not_blank : (text : List ℕ) → text ≢ [] → is_blank text ≡ false
not_blank [] some = absurd (some refl)
not_blank (b ∷ bs) some = grind arith
