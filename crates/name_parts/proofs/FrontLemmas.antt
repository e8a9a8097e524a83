-- What stands before the first bad place of a part is the front of some part.
use Rattle.std.proofs.Common.{◌≡◌, ℕ, zero, suc, ◌+◌, ◌<◌, ◌≤◌, true, false, min, cond, List, [], ◌∷◌, ◌++◌, length, take, get_or, Some, None, refl, sym, ap, subst, arith, inl, inr, one-add, length-take, length-append, get_or-take, lit<, IsAscii}
use Rattle.std.specs.Prelude.{◌==◌}
use Rattle.std.specs.Str.{IsUtf8, is_utf8, IsCharBoundary}
use Rattle.std.specs.Str.Lossy.{utf8_valid_len, valid_len_up_to}
use Rattle.std.proofs.lemmas.Bool.{and_from, cases_Bool, eq-eqb}
use Rattle.std.proofs.lemmas.Bool.Decides.{nat_tests}
use Rattle.std.proofs.lemmas.List.{take-take}
use Rattle.std.proofs.lemmas.Str.{IsUtf8-take, IsUtf8-append, IsUtf8-nil, IsUtf8-from_ascii, IsUtf8-from_is_utf8, is_utf8-from_IsUtf8, utf8_valid_len_le}
use Rattle.name_parts.specs.declared.parts.PartForm.{PartForm}
use Rattle.name_parts.specs.declared.parts.PartForm.TheVariants.{Letters, TestId, PairKey}
use Rattle.name_parts.specs.Grammar.{GoesOn}
use Rattle.name_parts.specs.Parts.{begins_control, control_place, is_plain_text, text_place, bad_place, has_letters}
use Rattle.name_parts.proofs.TextLemmas.{control_place-le}
use Rattle.name_parts.proofs.PlaceLaws.{letters_break_first, keys_break_first}

-- a control character cut off by a letter is none
plain_at_the_end : (b : ℕ) → begins_control (b ∷ []) ≡ false → begins_control (b ∷ 97 ∷ []) ≡ false
plain_at_the_end b none = grind (arith, nat_tests)

plain_before : (b c : ℕ) (bs : List ℕ) → begins_control (b ∷ c ∷ bs) ≡ false → begins_control (b ∷ 97 ∷ []) ≡ false
plain_before b c bs none = grind (arith, nat_tests)

plain_front : (b : ℕ) (bs : List ℕ) (n : ℕ) → begins_control (b ∷ bs) ≡ false → begins_control (b ∷ (take n bs ++ 97 ∷ [])) ≡ false
plain_front b [] zero none = plain_at_the_end b none
plain_front b [] (suc n) none = plain_at_the_end b none
plain_front b (c ∷ bs) zero none = plain_before b c bs none
plain_front b (c ∷ bs) (suc n) none = none

no_control_here : (b : ℕ) (bs : List ℕ) (n : ℕ) → suc n ≤ control_place (b ∷ bs) → (begins_control (b ∷ bs) ≡ false) × (n ≤ control_place bs)
no_control_here b bs n =
    elim (begins_control (b ∷ bs)) as (λ t. suc n ≤ cond t 0 (1 + control_place bs) → (t ≡ false) × (n ≤ control_place bs)) [
      | true ↦ λ h. absurd (omega (arith, h))
      | false ↦ λ h. (refl, omega (arith, h))
    ]

-- a letter behind bytes before the first control character
plain_and_letter : (text : List ℕ) (n : ℕ) → n ≤ control_place text → control_place (take n text ++ 97 ∷ []) ≡ length (take n text ++ 97 ∷ [])
plain_and_letter [] zero h = refl
plain_and_letter [] (suc n) h = refl
plain_and_letter (b ∷ bs) zero h = refl
plain_and_letter (b ∷ bs) (suc n) h =
    let here = no_control_here b bs n h in
    rw (plain_front b bs n here.0, plain_and_letter bs n here.1) (one-add (length (take n bs ++ 97 ∷ [])))

valid_front : (bs : List ℕ) (n : ℕ) → is_utf8 (take (valid_len_up_to bs n) bs) ≡ true
valid_front bs zero = is_utf8-from_IsUtf8 [] IsUtf8-nil
valid_front bs (suc n) =
    elim (cases_Bool (is_utf8 (take (suc n) bs))) [
      | inl e ↦ rw e e
      | inr e ↦ rw e (valid_front bs n)
    ]

first_is_no_continuation : (b : ℕ) (bs : List ℕ) → begins_control (b ∷ bs) ≡ true → 128 ≤ b → 192 ≤ b
first_is_no_continuation b [] control large = grind (arith, nat_tests)
first_is_no_continuation b (c ∷ bs) control large = grind (arith, nat_tests)

-- a control character begins with no byte that goes on in a character
control_begins : (text : List ℕ) → control_place text < length text → 128 ≤ get_or text (control_place text) 0 → 192 ≤ get_or text (control_place text) 0
control_begins [] few large = absurd (omega (arith, few))
control_begins (b ∷ bs) few large =
    elim (begins_control (b ∷ bs)) as (λ t. begins_control (b ∷ bs) ≡ t → cond t 0 (1 + control_place bs) < suc (length bs) → 128 ≤ get_or (b ∷ bs) (cond t 0 (1 + control_place bs)) 0 → 192 ≤ get_or (b ∷ bs) (cond t 0 (1 + control_place bs)) 0) [
      | true ↦ λ is f l. first_is_no_continuation b bs is l
      | false ↦ λ is f l. rw (one-add (control_place bs)) (control_begins bs (omega (arith, f)) (rw (one-add (control_place bs)) at l))
    ] refl few large

plain_from : (text : List ℕ) → 0 < length text → IsUtf8 text → control_place text ≡ length text → is_plain_text text ≡ true
plain_from [] some valid plain = absurd (omega (arith, some))
plain_from (b ∷ bs) some valid plain = and_from _ _ (is_utf8-from_IsUtf8 (b ∷ bs) valid) (eq-eqb (control_place (b ∷ bs)) (length (b ∷ bs)) plain)

-- the longest UTF-8 without a control character
text_front : (text : List ℕ) (n : ℕ) → n ≡ min (utf8_valid_len text) (control_place text) → IsUtf8 (take n text)
unfolding utf8_valid_len
text_front text n is =
    let most = utf8_valid_len text in
    let valid : IsUtf8 (take most text) = IsUtf8-from_is_utf8 (take most text) (valid_front text (length text)) in
    let few : n ≤ most = omega (arith, is) in
    let len = length-take most text in
    let begun = λ (less : n < length (take most text)) (large : 128 ≤ get_or (take most text) n 0).
    (let inside : n < most = omega (arith, len) in
    let place : n ≡ control_place text = omega (arith, is) in
    let same = get_or-take most text n 0 inside in
    let there = control_begins text (omega (arith, place, len, less)) (omega (arith, ap (λ i. get_or text i 0) place, same, large)) in
    let back : 192 ≤ get_or (take most text) n 0 = omega (arith, ap (λ i. get_or text i 0) place, same, there) in back) in
    let edge : IsCharBoundary (take most text) n = (omega (arith, len, utf8_valid_len_le text, control_place-le text), λ less large. begun less large) in
    subst (λ (t : List ℕ). IsUtf8 t) (take-take n most text few) (IsUtf8-take (take most text) n valid edge)

letter_is_ascii : IsAscii (97 ∷ [])
letter_is_ascii zero = lit< tt
letter_is_ascii (suc i) = lit< tt

letter_is_utf8 : IsUtf8 (97 ∷ [])
letter_is_utf8 = IsUtf8-from_ascii (97 ∷ []) letter_is_ascii

letter_is_plain : is_plain_text (97 ∷ []) ≡ true
letter_is_plain = plain_from (97 ∷ []) (lit< tt) letter_is_utf8 refl

place_is : (most len n : ℕ) → cond (most == len) None (Some most) ≡ Some n → most ≡ n
place_is most len n =
    elim (most == len) as (λ t. cond t None (Some most) ≡ Some n → most ≡ n) [
      | true ↦ λ e. cc
      | false ↦ λ e. cc
    ]

text_goes_on : (text : List ℕ) (n : ℕ) → text_place text ≡ Some n → GoesOn (λ t. is_plain_text t ≡ true) (take n text)
text_goes_on [] zero e = record { rest = 97 ∷ []; whole = letter_is_plain }
text_goes_on [] (suc n) e = record { rest = 97 ∷ []; whole = letter_is_plain }
text_goes_on (b ∷ bs) n e =
    let is : min (utf8_valid_len (b ∷ bs)) (control_place (b ∷ bs)) ≡ n = place_is _ _ n e in
    let few : n ≤ control_place (b ∷ bs) = omega (arith, is) in
    let valid = IsUtf8-append (take n (b ∷ bs)) (97 ∷ []) (text_front (b ∷ bs) n (sym is)) letter_is_utf8 in
    record {
      rest = 97 ∷ [];
      whole = plain_from (take n (b ∷ bs) ++ 97 ∷ []) (omega (arith, length-append (take n (b ∷ bs)) (97 ∷ []))) valid (plain_and_letter (b ∷ bs) n few);
    }

-- what stands before the first bad place is the front of bytes of the form
pub front_goes_on : (form : PartForm) (text : List ℕ) (n : ℕ) → bad_place form text ≡ Some n → GoesOn (λ t. has_letters form t ≡ true) (take n text)
front_goes_on (Letters of) text n e = (letters_break_first of text n e).before
front_goes_on TestId text n e = text_goes_on text n e
front_goes_on PairKey text n e = (keys_break_first text n e).before
