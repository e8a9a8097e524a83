-- The readers of decimals, of a time of day, of a zone and of a whole moment read just the texts of their grammars.
use Rattle.std.proofs.Common.{◌≡◌, ℕ, zero, suc, ◌+◌, ◌-◌, ◌*◌, ◌/◌, ◌==◌, ◌≤◌, ◌&&◌, true, false, Bool, List, [], ◌∷◌, ◌++◌, length, Ok, Err, refl, sym, ap, subst, ◌∙◌, arith, zero-add}
use Rattle.std.specs.Char.{is_ascii_digit}
use Rattle.std.specs.List.{list_all}
use Rattle.moments_spans.specs.MomentReading.{fraction_from, digits_from, decimals_from}
use Rattle.moments_spans.specs.MomentGrammar.{worth_of, IsDecimals, none, some}
use Rattle.moments_spans.proofs.DigitLaws.{EndsDecimals}
use Rattle.moments_spans.proofs.FractionLemmas.{fraction-digit, fraction-other, fraction-end, fraction-zero}
use Rattle.moments_spans.proofs.ReaderLaws.{IsRead, Breaks, Reads, by_test, by_byte, same_err, same_ok, not_both}

-- digits behind a point

-- What stands here ends decimals.
abbrev pub NoDecimals : List ℕ → Type 0
NoDecimals rest = (b : ℕ) (bs : List ℕ) → rest ≡ b ∷ bs → EndsDecimals b

record Fraction (left worth so_far : ℕ) (text : List ℕ) : Type 0 where
  digits : List ℕ
  rest : List ℕ
  parted : text ≡ digits ++ rest
  are_digits : list_all is_ascii_digit digits ≡ true
  few : length digits ≤ left
  is : fraction_from left worth so_far text ≡ (so_far + worth_of worth digits, rest)
  keeps : (b : ℕ) (bs more : List ℕ) → rest ≡ b ∷ bs → fraction_from left worth so_far (digits ++ b ∷ more) ≡ (so_far + worth_of worth digits, b ∷ more)

no_digits : (left worth so_far : ℕ) (text : List ℕ) → fraction_from left worth so_far text ≡ (so_far, text) → ((b : ℕ) (bs more : List ℕ) → text ≡ b ∷ bs → fraction_from left worth so_far (b ∷ more) ≡ (so_far, b ∷ more)) → Fraction left worth so_far text
no_digits left worth so_far text is keeps =
    let same : so_far ≡ so_far + 0 = omega arith in
    record {
      digits = [];
      rest = text;
      parted = refl;
      are_digits = refl;
      few = omega arith;
      is = is ∙ ap (λ n. (n, text)) same;
      keeps = λ b bs more at. keeps b bs more at ∙ ap (λ n. (n, b ∷ more)) same;
    }

one_more : (left worth so_far b : ℕ) (bs : List ℕ) → is_ascii_digit b ≡ true → Fraction left (worth / 10) (so_far + worth * (b - 48)) bs → Fraction (suc left) worth so_far (b ∷ bs)
one_more left worth so_far b bs digit f =
    let same : so_far + worth * (b - 48) + worth_of (worth / 10) f.digits ≡ so_far + (worth * (b - 48) + worth_of (worth / 10) f.digits) = omega arith in
    record {
      digits = b ∷ f.digits;
      rest = f.rest;
      parted = ap (λ t. b ∷ t) f.parted;
      are_digits = rw digit f.are_digits;
      few = omega (arith, f.few);
      is = fraction-digit (suc left) left worth so_far b bs refl digit ∙ f.is ∙ ap (λ n. (n, f.rest)) same;
      keeps = λ c cs more at. fraction-digit (suc left) left worth so_far b (f.digits ++ c ∷ more) refl digit ∙ f.keeps c cs more at ∙ ap (λ n. (n, c ∷ more)) same;
    }

fraction_parts : (left worth so_far : ℕ) (text : List ℕ) → Fraction left worth so_far text
fraction_parts zero worth so_far text = no_digits zero worth so_far text (fraction-zero worth so_far text) (λ b bs more at. fraction-zero worth so_far (b ∷ more))
fraction_parts (suc left) worth so_far [] = no_digits (suc left) worth so_far [] (fraction-end (suc left) worth so_far) (λ b bs more at. absurd cc)
fraction_parts (suc left) worth so_far (b ∷ bs) =
    by_test (is_ascii_digit b)
    (λ digit. one_more left worth so_far b bs digit (fraction_parts left (worth / 10) (so_far + worth * (b - 48)) bs))
    (λ other. no_digits (suc left) worth so_far (b ∷ bs) (fraction-other (suc left) worth so_far b bs other)
    (λ c cs more at. let same : b ≡ c = cc in fraction-other (suc left) worth so_far c more (ap is_ascii_digit (sym same) ∙ other)))

ends_fraction : (left worth so_far : ℕ) (rest : List ℕ) → NoDecimals rest → fraction_from left worth so_far rest ≡ (so_far, rest)
ends_fraction left worth so_far [] ends = fraction-end left worth so_far
ends_fraction left worth so_far (b ∷ bs) ends = fraction-other left worth so_far b bs (ends b bs refl).0

pub and_first : (a b : Bool) → (a && b) ≡ true → a ≡ true
and_first true b e = refl
and_first false b e = e

pub and_second : (a b : Bool) → (a && b) ≡ true → b ≡ true
and_second true b e = e
and_second false b e = absurd cc

whole_fraction : (left worth so_far : ℕ) (digits rest : List ℕ) → list_all is_ascii_digit digits ≡ true → length digits ≤ left → NoDecimals rest → fraction_from left worth so_far (digits ++ rest) ≡ (so_far + worth_of worth digits, rest)
whole_fraction left worth so_far [] rest all few ends =
    let same : so_far ≡ so_far + 0 = omega arith in
    ends_fraction left worth so_far rest ends ∙ ap (λ n. (n, rest)) same
whole_fraction zero worth so_far (b ∷ bs) rest all few ends = absurd (omega (arith, few))
whole_fraction (suc left) worth so_far (b ∷ bs) rest all few ends =
    let same : so_far + worth * (b - 48) + worth_of (worth / 10) bs ≡ so_far + (worth * (b - 48) + worth_of (worth / 10) bs) = omega arith in
    fraction-digit (suc left) left worth so_far b (bs ++ rest) refl (and_first _ _ all)
    ∙ whole_fraction left (worth / 10) (so_far + worth * (b - 48)) bs rest (and_second _ _ all) (omega (arith, few)) ends
    ∙ ap (λ n. (n, rest)) same

-- decimals

no_text : decimals_from [] ≡ Ok (0, [])
unfolding decimals_from
no_text = refl

no_point : (b : ℕ) (bs : List ℕ) → (b == 46) ≡ false → decimals_from (b ∷ bs) ≡ Ok (0, b ∷ bs)
unfolding decimals_from
no_point b bs other = rw other refl

bare_point : decimals_from (46 ∷ []) ≡ Err 0
unfolding decimals_from digits_from
bare_point = refl

point_and_digit : (b : ℕ) (bs : List ℕ) → is_ascii_digit b ≡ true → decimals_from (46 ∷ b ∷ bs) ≡ Ok (fraction_from 9 100_000 0 (b ∷ bs))
unfolding decimals_from digits_from
point_and_digit b bs digit = rw digit refl

point_and_other : (b : ℕ) (bs : List ℕ) → is_ascii_digit b ≡ false → decimals_from (46 ∷ b ∷ bs) ≡ Err (length (b ∷ bs))
unfolding decimals_from digits_from
point_and_other b bs other = rw other refl

read_none : (text rest : List ℕ) (v : ℕ) → decimals_from text ≡ Ok (0, text) → ((b : ℕ) (bs more : List ℕ) → text ≡ b ∷ bs → decimals_from (b ∷ more) ≡ Ok (0, b ∷ more)) → decimals_from text ≡ Ok (v, rest) → IsRead decimals_from IsDecimals text rest v
read_none text rest v is keeps e =
    let same : (0, text) ≡ (v, rest) = same_ok _ _ _ is e in
    let number : 0 ≡ v = ap (λ p. p.0) same in
    let left : text ≡ rest = ap (λ p. p.1) same in
    record {
      front = [];
      parted = left;
      is = none refl (sym number);
      keeps = λ b bs more at. keeps b bs more (left ∙ at) ∙ ap (λ n. Ok (n, b ∷ more)) number;
    }

read_some : (b : ℕ) (bs rest : List ℕ) (v : ℕ) → is_ascii_digit b ≡ true → decimals_from (46 ∷ b ∷ bs) ≡ Ok (v, rest) → IsRead decimals_from IsDecimals (46 ∷ b ∷ bs) rest v
unfolding one_more
read_some b bs rest v digit e =
    let g = fraction_parts 8 (100_000 / 10) (0 + 100_000 * (b - 48)) bs in
    let f = one_more 8 100_000 0 b bs digit g in
    let least : 1 ≤ length f.digits = omega arith in
    let same : (0 + worth_of 100_000 f.digits, f.rest) ≡ (v, rest) = sym f.is ∙ same_ok _ _ _ (point_and_digit b bs digit) e in
    let number : 0 + worth_of 100_000 f.digits ≡ v = ap (λ p. p.0) same in
    let left : f.rest ≡ rest = ap (λ p. p.1) same in
    record {
      front = 46 ∷ f.digits;
      parted = ap (λ t. 46 ∷ t) f.parted ∙ ap (λ t. (46 ∷ f.digits) ++ t) left;
      is = some f.digits f.are_digits (least, f.few) refl (sym number ∙ zero-add (worth_of 100_000 f.digits));
      keeps = λ c cs more at.
          point_and_digit b (g.digits ++ c ∷ more) digit ∙ ap Ok (f.keeps c cs more (left ∙ at)) ∙ ap (λ n. Ok (n, c ∷ more)) number;
    }

read_behind_point : (text rest : List ℕ) (v : ℕ) → decimals_from (46 ∷ text) ≡ Ok (v, rest) → IsRead decimals_from IsDecimals (46 ∷ text) rest v
read_behind_point [] rest v e = not_both (v, rest) 0 _ e bare_point
read_behind_point (b ∷ bs) rest v e =
    by_test (is_ascii_digit b) (λ digit. read_some b bs rest v digit e) (λ other. not_both (v, rest) (length (b ∷ bs)) _ e (point_and_other b bs other))

decimals_sound : (text rest : List ℕ) (v : ℕ) → decimals_from text ≡ Ok (v, rest) → IsRead decimals_from IsDecimals text rest v
decimals_sound text rest v e =
    by_byte 46 text
    (λ is. subst (λ t. IsRead decimals_from IsDecimals t rest v) (sym is) (read_none [] rest v no_text (λ b bs more at. absurd cc) (sym (ap decimals_from is) ∙ e)))
    (λ bs is. subst (λ t. IsRead decimals_from IsDecimals t rest v) (sym is) (read_behind_point bs rest v (sym (ap decimals_from is) ∙ e)))
    (λ b bs is other. subst (λ t. IsRead decimals_from IsDecimals t rest v) (sym is)
    (read_none (b ∷ bs) rest v (no_point b bs other)
    (λ c cs more at. let same : b ≡ c = cc in no_point c more (ap (λ x. x == 46) (sym same) ∙ other))
    (sym (ap decimals_from is) ∙ e)))

breaks_at_point : (bad : List ℕ) (left : ℕ) → length bad ≡ left → ((b : ℕ) (bs other : List ℕ) → bad ≡ b ∷ bs → decimals_from (46 ∷ b ∷ other) ≡ Err (length (b ∷ other))) → Breaks decimals_from IsDecimals (46 ∷ bad) left
breaks_at_point bad left many fails = record {
  front = 46 ∷ [];
  bad = bad;
  parted = refl;
  many = many;
  more = 48 ∷ [];
  value = 0;
  goes_on = some (48 ∷ []) refl (omega arith, omega arith) refl refl;
  fails = fails;
}

breaks_behind_point : (text : List ℕ) (left : ℕ) → decimals_from (46 ∷ text) ≡ Err left → Breaks decimals_from IsDecimals (46 ∷ text) left
breaks_behind_point [] left e = breaks_at_point [] left (same_err 0 left _ bare_point e) (λ b bs other is. absurd cc)
breaks_behind_point (b ∷ bs) left e =
    by_test (is_ascii_digit b)
    (λ digit. not_both (fraction_from 9 100_000 0 (b ∷ bs)) left _ (point_and_digit b bs digit) e)
    (λ other. breaks_at_point (b ∷ bs) left (same_err (length (b ∷ bs)) left _ (point_and_other b bs other) e)
    (λ c cs more is. let same : b ≡ c = cc in point_and_other c more (ap is_ascii_digit (sym same) ∙ other)))

decimals_breaks : (text : List ℕ) (left : ℕ) → decimals_from text ≡ Err left → Breaks decimals_from IsDecimals text left
decimals_breaks text left e =
    by_byte 46 text
    (λ is. not_both (0, []) left _ (ap decimals_from is ∙ no_text) e)
    (λ bs is. subst (λ t. Breaks decimals_from IsDecimals t left) (sym is) (breaks_behind_point bs left (sym (ap decimals_from is) ∙ e)))
    (λ b bs is other. not_both (0, b ∷ bs) left _ (ap decimals_from is ∙ no_point b bs other) e)

ends_decimals : (rest : List ℕ) → NoDecimals rest → decimals_from rest ≡ Ok (0, rest)
ends_decimals [] ends = no_text
ends_decimals (b ∷ bs) ends = no_point b bs (ends b bs refl).1

digits_read : (digits rest : List ℕ) → list_all is_ascii_digit digits ≡ true → 1 ≤ length digits → length digits ≤ 9 → NoDecimals rest → decimals_from (46 ∷ (digits ++ rest)) ≡ Ok (worth_of 100_000 digits, rest)
digits_read [] rest all least few ends = absurd (omega (arith, least))
digits_read (b ∷ bs) rest all least few ends =
    let same : 0 + worth_of 100_000 (b ∷ bs) ≡ worth_of 100_000 (b ∷ bs) = omega arith in
    point_and_digit b (bs ++ rest) (and_first _ _ all)
    ∙ ap Ok (whole_fraction 9 100_000 0 (b ∷ bs) rest all few ends) ∙ ap (λ n. Ok (n, rest)) same

decimals_complete : (front rest : List ℕ) (v : ℕ) → IsDecimals front v → NoDecimals rest → decimals_from (front ++ rest) ≡ Ok (v, rest)
decimals_complete front rest v (none is zero_is) ends = ap (λ t. decimals_from (t ++ rest)) is ∙ ends_decimals rest ends ∙ ap (λ n. Ok (n, rest)) (sym zero_is)
decimals_complete front rest v (some digits all count is worth) ends =
    ap (λ t. decimals_from (t ++ rest)) is ∙ digits_read digits rest all count.0 count.1 ends ∙ ap (λ n. Ok (n, rest)) (sym worth)

pub decimals_reads : Reads decimals_from IsDecimals NoDecimals
decimals_reads = record {
  some = record { text = []; value = 0; is = none refl refl };
  sound = decimals_sound;
  breaks = decimals_breaks;
  complete = decimals_complete;
}
