-- A text has no bad place just where it is UTF-8 without control characters.
use Rattle.std.proofs.Common.{◌≡◌, ℕ, zero, suc, ◌+◌, ◌<◌, ◌≤◌, true, false, min, cond, List, [], ◌∷◌, length, take, drop, None, refl, sym, ap, ◌∙◌, arith}
use Rattle.std.specs.Str.{IsUtf8, is_utf8}
use Rattle.std.specs.Str.Lossy.{utf8_valid_len, valid_len_up_to}
use Rattle.std.proofs.lemmas.Bool.{and_parts, and_from, eqb-true, eq-eqb}
use Rattle.std.proofs.lemmas.Bool.Decides.{nat_tests}
use Rattle.std.proofs.lemmas.List.{take_all}
use Rattle.std.proofs.lemmas.Str.{IsUtf8-nil, IsUtf8-from_is_utf8, utf8_valid_len_le, utf8_valid_len-IsUtf8}
use Rattle.name_parts.specs.Parts.{begins_control, control_place, is_plain_text, text_place}

valid_len_le : (bs : List ℕ) (n : ℕ) → valid_len_up_to bs n ≤ n
valid_len_le bs zero = omega arith
valid_len_le bs (suc n) =
    elim (is_utf8 (take (suc n) bs)) as (λ t. cond t (suc n) (valid_len_up_to bs n) ≤ suc n) [
      | true ↦ omega arith
      | false ↦ omega (arith, valid_len_le bs n)
    ]

front_is_utf8 : (bs : List ℕ) (n : ℕ) → valid_len_up_to bs (suc n) ≡ suc n → is_utf8 (take (suc n) bs) ≡ true
front_is_utf8 bs n e =
    elim (is_utf8 (take (suc n) bs)) as (λ t. cond t (suc n) (valid_len_up_to bs n) ≡ suc n → t ≡ true) [
      | true ↦ λ _. refl
      | false ↦ λ f. absurd (omega (arith, valid_len_le bs n))
    ] e

utf8_to_the_end : (b : ℕ) (bs : List ℕ) → utf8_valid_len (b ∷ bs) ≡ length (b ∷ bs) → is_utf8 (b ∷ bs) ≡ true
unfolding utf8_valid_len
utf8_to_the_end b bs e =
    let all : take (suc (length bs)) (b ∷ bs) ≡ b ∷ bs = take_all (suc (length bs)) (b ∷ bs) (omega arith) in
    ap is_utf8 (sym all) ∙ front_is_utf8 (b ∷ bs) (length bs) e

pub utf8_all : (text : List ℕ) → utf8_valid_len text ≡ length text → IsUtf8 text
utf8_all [] e = IsUtf8-nil
utf8_all (b ∷ bs) e = IsUtf8-from_is_utf8 (b ∷ bs) (utf8_to_the_end b bs e)

-- one step on, where no control character begins
pub control_place-step : (text : List ℕ) (i : ℕ) → i < length text → begins_control (drop i text) ≡ false → control_place (drop i text) ≡ 1 + control_place (drop (i + 1) text)
control_place-step [] i within none = absurd (omega arith)
control_place-step (b ∷ bs) zero within none = rw none refl
control_place-step (b ∷ bs) (suc i) within none =
    let next : suc i + 1 ≡ suc (i + 1) = omega arith in
    rw next (control_place-step bs i (omega arith) none)

pub control_place-here : (text : List ℕ) → begins_control text ≡ true → control_place text ≡ 0
control_place-here [] control = refl
control_place-here (b ∷ bs) control = rw control refl

pub control_place-le : (bs : List ℕ) → control_place bs ≤ length bs
control_place-le [] = omega arith
control_place-le (b ∷ bs) =
    elim (begins_control (b ∷ bs)) as (λ t. cond t 0 (1 + control_place bs) ≤ suc (length bs)) [
      | true ↦ omega arith
      | false ↦ omega (arith, control_place-le bs)
    ]

pub text_place-None : (text : List ℕ) → text_place text ≡ None → is_plain_text text ≡ true
text_place-None [] e = cc
text_place-None (b ∷ bs) e =
    let both : min (utf8_valid_len (b ∷ bs)) (control_place (b ∷ bs)) ≡ length (b ∷ bs) = grind (arith, nat_tests) in
    let valid = utf8_valid_len_le (b ∷ bs) in
    let plain = control_place-le (b ∷ bs) in
    and_from _ _ (utf8_to_the_end b bs (omega arith)) (eq-eqb (control_place (b ∷ bs)) (length (b ∷ bs)) (omega arith))

pub plain_text-place : (text : List ℕ) → is_plain_text text ≡ true → text_place text ≡ None
plain_text-place [] e = cc
plain_text-place (b ∷ bs) e =
    let parts = and_parts _ _ e in
    let valid : utf8_valid_len (b ∷ bs) ≡ length (b ∷ bs) = utf8_valid_len-IsUtf8 (b ∷ bs) (IsUtf8-from_is_utf8 (b ∷ bs) parts.0) in
    let plain = eqb-true _ _ parts.1 in
    let both : min (utf8_valid_len (b ∷ bs)) (control_place (b ∷ bs)) ≡ length (b ∷ bs) = omega arith in
    rw (both, eq-eqb (length (b ∷ bs)) (length (b ∷ bs)) refl) refl

pub plain_text-utf8 : (text : List ℕ) → is_plain_text text ≡ true → IsUtf8 text
plain_text-utf8 [] e = cc
plain_text-utf8 (b ∷ bs) e = IsUtf8-from_is_utf8 (b ∷ bs) (and_parts _ _ e).0
