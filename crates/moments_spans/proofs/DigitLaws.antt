-- Digits that are printed are read as the number that was printed.
use Rattle.std.proofs.Common.{◌≡◌, ℕ, zero, suc, ◌+◌, ◌-◌, ◌*◌, ◌/◌, ◌%◌, ◌==◌, ◌≤◌, ◌<◌, nat_le, true, false, List, ◌∷◌, ◌++◌, Result, Ok, refl, ap, ◌∙◌, arith}
use Rattle.std.proofs.lemmas.Bool.{le-leb}
use Rattle.std.proofs.lemmas.Bool.Decides.{nat_tests}
use Rattle.std.specs.Char.{is_ascii_digit}
use Rattle.moments_spans.specs.Moments.{two_digits, three_digits, four_digits, decimals}
use Rattle.moments_spans.specs.MomentReading.{◌>>=◌, digit_from, two_from, year_from, byte_from, fraction_from, digits_from, decimals_from}
use Rattle.moments_spans.proofs.FractionLemmas.{fraction-digit, fraction-other}

pub bind : {A B : Type 0} (r : Result A ℕ) (x : A) (f : A → Result B ℕ) → r ≡ Ok x → (r >>= f) ≡ f x
bind r x f e = ap (λ v. v >>= f) e

pub digit_is : (q : ℕ) → q ≤ 9 → is_ascii_digit (48 + q) ≡ true
digit_is q few = grind (arith, nat_tests)

pub digit_read : (worth low high so_far q : ℕ) (bs : List ℕ) → q ≤ 9 → so_far + worth * q ≤ high → low ≤ so_far + worth * q + (worth - 1) → digit_from worth low high so_far ((48 + q) ∷ bs) ≡ Ok (so_far + worth * q, bs)
unfolding digit_from
digit_read worth low high so_far q bs few most least =
    let back : 48 + q - 48 ≡ q = omega arith in
    let fits : nat_le (so_far + worth * q) high ≡ true = le-leb _ _ most in
    let reaches : nat_le low (so_far + worth * q + (worth - 1)) ≡ true = le-leb _ _ least in
    rw (digit_is q few, back, fits, reaches) refl

pub two_read : (low high n : ℕ) (rest : List ℕ) → low ≤ n → n ≤ high → n ≤ 99 → two_from low high (two_digits n ++ rest) ≡ Ok (n, rest)
unfolding two_from
two_read low high n rest least most few =
    bind _ _ (λ tens. digit_from 1 low high tens.0 tens.1) (digit_read 10 low high 0 (n / 10) ((48 + n % 10) ∷ rest) (omega arith) (omega arith) (omega arith))
    ∙ digit_read 1 low high (0 + 10 * (n / 10)) (n % 10) rest (omega arith) (omega arith) (omega arith)
    ∙ (let same : 0 + 10 * (n / 10) + 1 * (n % 10) ≡ n = omega arith in ap (λ v. Ok (v, rest)) same)

-- the four digits of a year
year_of_digits : (a b c d y : ℕ) (rest : List ℕ) → a ≤ 9 → b ≤ 9 → c ≤ 9 → d ≤ 9 → 1000 * a + 100 * b + 10 * c + d ≡ y → 1 ≤ y → year_from ((48 + a) ∷ (48 + b) ∷ (48 + c) ∷ (48 + d) ∷ rest) ≡ Ok (y, rest)
unfolding year_from
year_of_digits a b c d y rest ea eb ec ed is least =
    bind _ _ _ (digit_read 1000 1 9999 0 a ((48 + b) ∷ (48 + c) ∷ (48 + d) ∷ rest) ea (omega arith) (omega arith))
    ∙ (bind _ _ _ (digit_read 100 1 9999 (0 + 1000 * a) b ((48 + c) ∷ (48 + d) ∷ rest) eb (omega arith) (omega arith))
    ∙ (bind _ _ _ (digit_read 10 1 9999 (0 + 1000 * a + 100 * b) c ((48 + d) ∷ rest) ec (omega arith) (omega arith))
    ∙ (digit_read 1 1 9999 (0 + 1000 * a + 100 * b + 10 * c) d rest ed (omega arith) (omega arith)
    ∙ (let same : 0 + 1000 * a + 100 * b + 10 * c + 1 * d ≡ y = omega arith in ap (λ v. Ok (v, rest)) same))))

pub year_read : (y : ℕ) (rest : List ℕ) → 1 ≤ y → y ≤ 9999 → year_from (four_digits y ++ rest) ≡ Ok (y, rest)
year_read y rest least most =
    year_of_digits (y / 100 / 10) (y / 100 % 10) (y % 100 / 10) (y % 100 % 10) y rest (omega arith) (omega arith) (omega arith) (omega arith) (omega arith) least

pub byte_read : (c : ℕ) (rest : List ℕ) → byte_from c (c ∷ rest) ≡ Ok rest
unfolding byte_from
byte_read c rest = let same : (c == c) ≡ true = grind (arith, nat_tests) in rw same refl

-- decimals

fraction_step : (left worth so_far q : ℕ) (bs : List ℕ) → q ≤ 9 → fraction_from (suc left) worth so_far ((48 + q) ∷ bs) ≡ fraction_from left (worth / 10) (so_far + worth * q) bs
fraction_step left worth so_far q bs few =
    let back : 48 + q - 48 ≡ q = omega arith in
    fraction-digit (suc left) left worth so_far (48 + q) bs refl (digit_is q few) ∙ ap (λ v. fraction_from left (worth / 10) (so_far + worth * v) bs) back

-- thousandths, and then millionths
milliseconds : (n : ℕ) (bs : List ℕ) → n ≤ 999 → fraction_from 9 100_000 0 (three_digits n ++ bs) ≡ fraction_from 6 100 (1000 * n) bs
milliseconds n bs few =
    let same : 0 + 100_000 * (n / 100) + 10_000 * (n % 100 / 10) + 1000 * (n % 100 % 10) ≡ 1000 * n = omega arith in
    fraction_step 8 100_000 0 (n / 100) _ (omega arith)
    ∙ (fraction_step 7 10_000 (0 + 100_000 * (n / 100)) (n % 100 / 10) _ (omega arith)
    ∙ (fraction_step 6 1000 (0 + 100_000 * (n / 100) + 10_000 * (n % 100 / 10)) (n % 100 % 10) bs (omega arith)
    ∙ ap (λ v. fraction_from 6 100 v bs) same))

microseconds : (so_far n : ℕ) (bs : List ℕ) → n ≤ 999 → fraction_from 6 100 so_far (three_digits n ++ bs) ≡ fraction_from 3 0 (so_far + n) bs
microseconds so_far n bs few =
    let same : so_far + 100 * (n / 100) + 10 * (n % 100 / 10) + 1 * (n % 100 % 10) ≡ so_far + n = omega arith in
    fraction_step 5 100 so_far (n / 100) _ (omega arith)
    ∙ (fraction_step 4 10 (so_far + 100 * (n / 100)) (n % 100 / 10) _ (omega arith)
    ∙ (fraction_step 3 1 (so_far + 100 * (n / 100) + 10 * (n % 100 / 10)) (n % 100 % 10) bs (omega arith)
    ∙ ap (λ v. fraction_from 3 0 v bs) same))

digits_start : (q : ℕ) (bs : List ℕ) → q ≤ 9 → digits_from ((48 + q) ∷ bs) ≡ Ok (fraction_from 9 100_000 0 ((48 + q) ∷ bs))
unfolding digits_from
digits_start q bs few = rw (digit_is q few) refl

point : (bs : List ℕ) → decimals_from (46 ∷ bs) ≡ digits_from bs
unfolding decimals_from
point bs = refl

no_point : (b : ℕ) (bs : List ℕ) → (b == 46) ≡ false → decimals_from (b ∷ bs) ≡ Ok (0, b ∷ bs)
unfolding decimals_from
no_point b bs other = rw other refl

pub by_zero : {P : Type 0} (n : ℕ) → (n ≡ 0 → P) → (0 < n → P) → P
by_zero zero none some = none refl
by_zero (suc n) none some = some (omega arith)

pub is_positive : (n : ℕ) → 0 < n → (n == 0) ≡ false
is_positive n more = grind (arith, nat_tests)

-- the decimals that were printed, in front of what is neither a digit nor a point
abbrev pub EndsDecimals : ℕ → Type 0
EndsDecimals b = (is_ascii_digit b ≡ false) × ((b == 46) ≡ false)

pub decimals_read : (micros b : ℕ) (bs : List ℕ) → micros < 1_000_000 → EndsDecimals b → decimals_from (decimals micros ++ b ∷ bs) ≡ Ok (micros, b ∷ bs)
decimals_read micros b bs few ends =
    by_zero micros (λ none. rw none (no_point b bs ends.1))
    (λ some.
    let has : (micros == 0) ≡ false = is_positive micros some in
    by_zero (micros % 1000)
    (λ whole.
    let same : 1000 * (micros / 1000) ≡ micros = omega arith in
    rw (has, whole) (point _ ∙ digits_start (micros / 1000 / 100) _ (omega arith)
    ∙ ap Ok (milliseconds (micros / 1000) (b ∷ bs) (omega arith) ∙ fraction-other 6 100 _ b bs ends.0 ∙ ap (λ v. (v, b ∷ bs)) same)))
    (λ more.
    let parts : (micros % 1000 == 0) ≡ false = is_positive _ more in
    let same : 1000 * (micros / 1000) + micros % 1000 ≡ micros = omega arith in
    rw (has, parts) (point _ ∙ digits_start (micros / 1000 / 100) _ (omega arith)
    ∙ ap Ok (milliseconds (micros / 1000) (three_digits (micros % 1000) ++ b ∷ bs) (omega arith)
    ∙ microseconds (1000 * (micros / 1000)) (micros % 1000) (b ∷ bs) (omega arith)
    ∙ fraction-other 3 0 _ b bs ends.0 ∙ ap (λ v. (v, b ∷ bs)) same))))
