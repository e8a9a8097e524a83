-- The longest front of what is shown of a text, and that it is the id of a test.
use Rattle.std.proofs.Common.{◌≡◌, ◌≢◌, ℕ, zero, suc, ◌+◌, ◌-◌, ◌/◌, ◌%◌, ◌<◌, ◌≤◌, true, false, cond, List, [], ◌∷◌, ◌++◌, length, take, map, refl, sym, ap, ◌∙◌, arith, append_assoc, length-append, one-add, subst, inl, inr, rules, append-nil}
use Rattle.std.specs.Prelude.{nat_le, nat_lt, codes}
use Rattle.std.specs.Char.{is_control, len_utf8}
use Rattle.std.specs.Str.{IsUtf8, is_utf8, all_scalars, chars}
use Rattle.std.specs.Str.Lossy.{utf8_valid_len, valid_len_up_to}
use lib.Utf8.{scalar, encode, encodes}
use Rattle.std.proofs.lemmas.Bool.{and_parts, and_from, cases_Bool, eq-eqb}
use Rattle.std.proofs.lemmas.Bool.Decides.{nat_tests}
use Rattle.std.proofs.lemmas.List.{map-append, take_all}
use Rattle.std.proofs.lemmas.Str.{chars-nil, IsUtf8-append, IsUtf8-nil, IsUtf8-from_is_utf8, is_utf8-from_IsUtf8, scalars-chars, chars-append, encodes-append, length-encode, len_utf8_bounds, chars_past_char, utf8_valid_len-IsUtf8}
use Rattle.name_parts.specs.Parts.{begins_control, control_place, is_plain_text}
use Rattle.names_realms.specs.Names.{IsTestId}
use Rattle.report_ids.specs.TestNames.{shown, front_within, text_of, shown_name, or_unnamed, test_id_text}
use Rattle.report_ids.specs.Rooms.{room_behind}

-- no character fits into no room
front_within-none : (cs : List ℕ) → front_within 0 cs ≡ []
front_within-none [] = refl
front_within-none (c ∷ cs) =
    elim (cases_Bool (nat_le (len_utf8 c) 0)) [
      | inl e ↦ absurd (let bounds = len_utf8_bounds c in grind (arith, nat_tests))
      | inr e ↦ rw e refl
    ]

pub front_within-append : (room : ℕ) (xs ys : List ℕ) → front_within room (xs ++ ys) ≡ front_within room xs ++ front_within (room_behind room xs) ys
front_within-append room [] ys = refl
front_within-append room (x ∷ xs) ys =
    elim (cases_Bool (nat_le (len_utf8 x) room)) [
      | inl e ↦ rw e (ap (λ (zs : List ℕ). x ∷ zs) (front_within-append (room - len_utf8 x) xs ys))
      | inr e ↦ rw e (sym (front_within-none ys))
    ]

-- scalar values, none of them a control character
abbrev pub ArePlain : List ℕ → Type 0
ArePlain [] = Unit {0}
ArePlain (c ∷ cs) = (scalar c ≡ true) × (is_control c ≡ false) × ArePlain cs

shown_plain : (c : ℕ) → scalar c ≡ true → (scalar (shown c) ≡ true) × (is_control (shown c) ≡ false)
shown_plain c e =
    elim (is_control c) as (λ t. is_control c ≡ t → (scalar (cond t 32 c) ≡ true) × (is_control (cond t 32 c) ≡ false)) [
      | true ↦ λ is. (refl, refl)
      | false ↦ λ is. (e, is)
    ] refl

pub all_shown_plain : (cs : List ℕ) → all_scalars cs ≡ true → ArePlain (map shown cs)
all_shown_plain [] e = tt
all_shown_plain (c ∷ cs) e =
    let parts = and_parts _ _ e in
    let here = shown_plain c parts.0 in
    (here.0, here.1, all_shown_plain cs parts.1)

pub front_plain : (room : ℕ) (cs : List ℕ) → ArePlain cs → ArePlain (front_within room cs)
front_plain room [] plain = tt
front_plain room (c ∷ cs) plain =
    elim (nat_le (len_utf8 c) room) as (λ t. ArePlain (cond t (c ∷ front_within (room - len_utf8 c) cs) [])) [
      | true ↦ (plain.0, plain.1, front_plain (room - len_utf8 c) cs plain.2)
      | false ↦ tt
    ]

pub front_fits : (room : ℕ) (cs : List ℕ) → length (encodes (front_within room cs)) ≤ room
front_fits room [] = omega arith
front_fits room (c ∷ cs) =
    elim (nat_le (len_utf8 c) room) as (λ t. nat_le (len_utf8 c) room ≡ t → length (encodes (cond t (c ∷ front_within (room - len_utf8 c) cs) [])) ≤ room) [
      | true ↦ λ is.
          (let rest = front_fits (room - len_utf8 c) cs in
          let both = length-append (encode c) (encodes (front_within (room - len_utf8 c) cs)) in
          let len = length-encode c in
          grind (arith, nat_tests))
      | false ↦ λ is. omega arith
    ] refl

low_plain : (c : ℕ) (bs : List ℕ) → c < 128 → is_control c ≡ false → begins_control (c ∷ bs) ≡ false
low_plain c [] low none = grind (arith, nat_tests)
low_plain c (b ∷ bs) low none = grind (arith, nat_tests)

high_plain : (b : ℕ) (bs : List ℕ) → 128 ≤ b → b ≢ 194 → begins_control (b ∷ bs) ≡ false
high_plain b [] high other = grind (arith, nat_tests)
high_plain b (c ∷ bs) high other = grind (arith, nat_tests)

two_plain : (c : ℕ) (bs : List ℕ) → 128 ≤ c → c < 2048 → is_control c ≡ false → begins_control ((192 + c / 64) ∷ (128 + c % 64) ∷ bs) ≡ false
two_plain c bs high low none = grind (arith, nat_tests)

step : (b : ℕ) (bs : List ℕ) → begins_control (b ∷ bs) ≡ false → control_place (b ∷ bs) ≡ suc (control_place bs)
step b bs none = rw none (one-add (control_place bs))

next_step : (n : ℕ) (bs : List ℕ) → control_place ((128 + n % 64) ∷ bs) ≡ suc (control_place bs)
next_step n bs = step (128 + n % 64) bs (high_plain (128 + n % 64) bs (omega arith) (λ e. omega (arith, e)))

-- no control character begins in a character that is none
pub char_plain : (c : ℕ) (bs : List ℕ) → scalar c ≡ true → is_control c ≡ false → control_place (encode c ++ bs) ≡ length (encode c) + control_place bs
unfolding encode
char_plain c bs valid none =
    elim (cases_Bool (nat_lt c 128)) [
      | inl e ↦ rw e (step c bs (low_plain c bs (grind (arith, nat_tests)) none) ∙ sym (one-add (control_place bs)))
      | inr e ↦ elim (cases_Bool (nat_lt c 2048)) [
        | inl f ↦ rw (e, f) (let first = step (192 + c / 64) ((128 + c % 64) ∷ bs) (two_plain c bs (grind (arith, nat_tests)) (grind (arith, nat_tests)) none) in let second = next_step c bs in omega (arith, first, second))
        | inr f ↦ elim (cases_Bool (nat_lt c 65536)) [
          | inl g ↦ rw (e, f, g) (let first = step (224 + c / 4096) ((128 + (c / 64) % 64) ∷ (128 + c % 64) ∷ bs) (high_plain (224 + c / 4096) ((128 + (c / 64) % 64) ∷ (128 + c % 64) ∷ bs) (omega arith) (λ x. omega (arith, x))) in let second = next_step (c / 64) ((128 + c % 64) ∷ bs) in let third = next_step c bs in omega (arith, first, second, third))
          | inr g ↦ rw (e, f, g) (let first = step (240 + c / 262144) ((128 + (c / 4096) % 64) ∷ (128 + (c / 64) % 64) ∷ (128 + c % 64) ∷ bs) (high_plain (240 + c / 262144) ((128 + (c / 4096) % 64) ∷ (128 + (c / 64) % 64) ∷ (128 + c % 64) ∷ bs) (omega arith) (λ x. omega (arith, x))) in let second = next_step (c / 4096) ((128 + (c / 64) % 64) ∷ (128 + c % 64) ∷ bs) in let third = next_step (c / 64) ((128 + c % 64) ∷ bs) in let fourth = next_step c bs in omega (arith, first, second, third, fourth))
        ]
      ]
    ]

pub all_plain : (cs : List ℕ) → ArePlain cs → control_place (encodes cs) ≡ length (encodes cs)
all_plain [] plain = refl
all_plain (c ∷ cs) plain =
    char_plain c (encodes cs) plain.0 plain.1 ∙ ap (λ n. length (encode c) + n) (all_plain cs plain.2) ∙ sym (length-append (encode c) (encodes cs))

pub plain_scalars : (cs : List ℕ) → ArePlain cs → all_scalars cs ≡ true
plain_scalars [] plain = refl
plain_scalars (c ∷ cs) plain = and_from _ _ plain.0 (plain_scalars cs plain.2)

plain_from : (text : List ℕ) → 0 < length text → IsUtf8 text → control_place text ≡ length text → is_plain_text text ≡ true
plain_from [] some valid plain = absurd (omega (arith, some))
plain_from (b ∷ bs) some valid plain = and_from _ _ (is_utf8-from_IsUtf8 (b ∷ bs) valid) (eq-eqb (control_place (b ∷ bs)) (length (b ∷ bs)) plain)

-- plain characters make the id of a test, where there is one and they aren't too many
id_from : (text cs : List ℕ) → encodes cs ≡ text → 0 < length text → length text ≤ 512 → ArePlain cs → IsTestId text
id_from text cs is some few plain = record {
  letters = plain_from text some (cs, (plain_scalars cs plain, is)) (subst (λ (t : List ℕ). control_place t ≡ length t) is (all_plain cs plain));
  most = few;
}

unnamed_is_id : IsTestId (codes "unnamed")
unfolding encode
unnamed_is_id = id_from (codes "unnamed") (codes "unnamed") refl (omega arith) (omega arith) (search rules)

or_unnamed_is_id : (text cs : List ℕ) → encodes cs ≡ text → length text ≤ 512 → ArePlain cs → IsTestId (or_unnamed text)
or_unnamed_is_id [] cs is few plain = unnamed_is_id
or_unnamed_is_id (b ∷ bs) cs is few plain = id_from (b ∷ bs) cs is (omega arith) few plain

valid_front : (bs : List ℕ) (n : ℕ) → is_utf8 (take (valid_len_up_to bs n) bs) ≡ true
valid_front bs zero = is_utf8-from_IsUtf8 [] IsUtf8-nil
valid_front bs (suc n) =
    elim (cases_Bool (is_utf8 (take (suc n) bs))) [
      | inl e ↦ rw e e
      | inr e ↦ rw e (valid_front bs n)
    ]

-- what stands before the first byte that is no UTF-8
pub text_of_is_utf8 : (bs : List ℕ) → IsUtf8 (text_of bs)
unfolding utf8_valid_len
text_of_is_utf8 bs = IsUtf8-from_is_utf8 (text_of bs) (valid_front bs (length bs))

-- what is made of a prefix and a name is the id of a test
pub test_id_text-IsTestId : (prefix name : List ℕ) → IsUtf8 prefix → IsTestId (test_id_text prefix name)
unfolding test_id_text
test_id_text-IsTestId prefix name valid =
    let text = prefix ++ text_of name in
    let all = map shown (chars text) in
    let plain = all_shown_plain (chars text) (scalars-chars text (IsUtf8-append prefix (text_of name) valid (text_of_is_utf8 name))) in
    or_unnamed_is_id _ (front_within 512 all) refl (front_fits 512 all) (front_plain 512 all plain)

-- the shown prefix, and as much of the shown name as there is room for behind it
pub shown_name-parts : (prefix name : List ℕ) → IsUtf8 prefix → shown_name prefix name ≡ encodes (front_within 512 (map shown (chars prefix))) ++ encodes (front_within (room_behind 512 (map shown (chars prefix))) (map shown (chars (text_of name))))
shown_name-parts prefix name valid =
    let front = map shown (chars prefix) in
    let back = map shown (chars (text_of name)) in
    let parted : map shown (chars (prefix ++ text_of name)) ≡ front ++ back = ap (map shown) (chars-append prefix (text_of name) valid) ∙ map-append shown (chars prefix) (chars (text_of name)) in
    ap (λ (cs : List ℕ). encodes (front_within 512 cs)) parted ∙ ap encodes (front_within-append 512 front back) ∙ encodes-append (front_within 512 front) (front_within (room_behind 512 front) back)

pub text_of-IsUtf8 : (bs : List ℕ) → IsUtf8 bs → text_of bs ≡ bs
text_of-IsUtf8 bs valid = take_all (utf8_valid_len bs) bs (omega (arith, utf8_valid_len-IsUtf8 bs valid))

-- what the next character of a text adds, where it fits
pub front_step : (before out text rest : List ℕ) (ch s len room left : ℕ) → IsUtf8 text → text ≡ encode ch ++ rest → s ≡ shown ch → len ≡ len_utf8 s → len ≤ room → left ≡ room - len → out ≡ before ++ encode s → out ++ encodes (front_within left (map shown (chars rest))) ≡ before ++ encodes (front_within room (map shown (chars text)))
front_step before out text rest ch s len room left valid is shows lens fits lefts outs =
    let passed = chars_past_char text rest ch valid is in
    let there : nat_le (len_utf8 s) room ≡ true = grind (arith, nat_tests) in
    rw (passed, ← shows, there, ← lens, ← lefts, outs) (append_assoc before (encode s) (encodes (front_within left (map shown (chars rest)))))

pub room_step : (text rest : List ℕ) (ch s len room left : ℕ) → IsUtf8 text → text ≡ encode ch ++ rest → s ≡ shown ch → len ≡ len_utf8 s → len ≤ room → left ≡ room - len → room_behind left (map shown (chars rest)) ≡ room_behind room (map shown (chars text))
room_step text rest ch s len room left valid is shows lens fits lefts =
    let passed = chars_past_char text rest ch valid is in
    let there : nat_le (len_utf8 s) room ≡ true = grind (arith, nat_tests) in
    rw (passed, ← shows, there, ← lens, ← lefts) refl

-- and where it doesn't
pub front_stop : (text rest : List ℕ) (ch s len room : ℕ) → IsUtf8 text → text ≡ encode ch ++ rest → s ≡ shown ch → len ≡ len_utf8 s → room < len → (front_within room (map shown (chars text)) ≡ []) × (room_behind room (map shown (chars text)) ≡ 0)
front_stop text rest ch s len room valid is shows lens short =
    let passed = chars_past_char text rest ch valid is in
    let there : nat_le (len_utf8 s) room ≡ false = grind (arith, nat_tests) in
    rw (passed, ← shows, there) (refl, refl)

-- and at the end
pub front_end : (out rest : List ℕ) (room : ℕ) → length rest ≡ 0 → out ≡ out ++ encodes (front_within room (map shown (chars rest)))
front_end out [] room none = rw chars-nil (sym (append-nil out))
front_end out (b ∷ bs) room none = absurd (omega (arith, none))

pub room_end : (rest : List ℕ) (room : ℕ) → length rest ≡ 0 → room ≡ room_behind room (map shown (chars rest))
room_end [] room none = rw chars-nil refl
room_end (b ∷ bs) room none = absurd (omega (arith, none))
