-- A span that is printed is read as itself, and its decimals are the fewest.
use Rattle.std.proofs.Common.{◌≡◌, ℕ, suc, ◌+◌, ◌-◌, ◌*◌, ◌/◌, ◌%◌, ◌^◌, ◌==◌, ◌≤◌, ◌<◌, nat_le, true, false, List, [], ◌∷◌, ◌++◌, length, Ok, refl, ap, ◌∙◌, arith, append_assoc, length-append}
use Rattle.std.proofs.lemmas.Bool.{le-leb}
use Rattle.std.specs.Fmt.{decimal}
use Rattle.std.proofs.lemmas.Fmt.{decimal_by_steps, decimal_nonempty, length-decimal-le}
use Rattle.moments_spans.specs.Moments.{decimals}
use Rattle.moments_spans.specs.Spans.{most_span, span_text}
use Rattle.moments_spans.specs.SpanReading.{seconds_from, span_from, span_judged, whole_from, span_of}
use Rattle.moments_spans.specs.Laws.{DecimalsAreFewest}
use Rattle.moments_spans.proofs.FractionLemmas.{whole-digit, whole-other}
use Rattle.moments_spans.proofs.DigitLaws.{bind, byte_read, by_zero, decimals_read, digit_is, is_positive}

whole_step : (left so_far q : ℕ) (bs : List ℕ) → q ≤ 9 → whole_from (suc left) so_far ((48 + q) ∷ bs) ≡ whole_from left (10 * so_far + q) bs
whole_step left so_far q bs few =
    let back : 48 + q - 48 ≡ q = omega arith in
    whole-digit (suc left) left so_far (48 + q) bs refl (digit_is q few) ∙ ap (λ v. whole_from left (10 * so_far + v) bs) back

-- the digits of a number are read as the number, if there may be so many
abbrev ReadsDigits : ℕ → List ℕ → Type 0
ReadsDigits n ds = (left : ℕ) (bs : List ℕ) → whole_from (length ds + left) 0 (ds ++ bs) ≡ whole_from left n bs

one_digit : (n : ℕ) → n < 10 → ReadsDigits n ((48 + n) ∷ [])
one_digit n few left bs =
    let many : length ((48 + n) ∷ []) + left ≡ suc left = omega arith in
    let same : 10 * 0 + n ≡ n = omega arith in
    ap (λ k. whole_from k 0 ((48 + n) ∷ bs)) many ∙ whole_step left 0 n bs (omega arith) ∙ ap (λ v. whole_from left v bs) same

more_digits : (n : ℕ) (ds : List ℕ) → 10 ≤ n → ReadsDigits (n / 10) ds → ReadsDigits n (ds ++ ((48 + n % 10) ∷ []))
more_digits n ds some before left bs =
    let d = 48 + n % 10 in
    let many : length (ds ++ (d ∷ [])) + left ≡ length ds + suc left = omega (arith, length-append ds (d ∷ [])) in
    let same : 10 * (n / 10) + n % 10 ≡ n = omega arith in
    ap (λ k. whole_from k 0 ((ds ++ (d ∷ [])) ++ bs)) many
    ∙ ap (λ t. whole_from (length ds + suc left) 0 t) (append_assoc ds (d ∷ []) bs)
    ∙ before (suc left) (d ∷ bs)
    ∙ whole_step left (n / 10) (n % 10) bs (omega arith)
    ∙ ap (λ v. whole_from left v bs) same

digits_read : (n : ℕ) → n < 2 ^ 64 → ReadsDigits n (decimal n)
digits_read = decimal_by_steps ReadsDigits one_digit more_digits

-- and the first of them is a digit
abbrev BeginsSeconds : List ℕ → Type 0
BeginsSeconds ds = (bs : List ℕ) → seconds_from (ds ++ bs) ≡ Ok (whole_from 12 0 (ds ++ bs))

first_digit : (q : ℕ) (bs : List ℕ) → q ≤ 9 → seconds_from ((48 + q) ∷ bs) ≡ Ok (whole_from 12 0 ((48 + q) ∷ bs))
unfolding seconds_from
first_digit q bs few = rw (digit_is q few) refl

seconds_begin : (n : ℕ) → n < 2 ^ 64 → BeginsSeconds (decimal n)
seconds_begin =
    decimal_by_steps (λ n ds. BeginsSeconds ds) (λ n few bs. first_digit n bs (omega arith))
    (λ n ds some before bs. let one = (48 + n % 10) ∷ [] in rw (append_assoc ds one bs) (before (one ++ bs)))

-- behind the seconds no digit stands
stops : (n left so_far : ℕ) → whole_from left so_far (decimals n ++ 115 ∷ []) ≡ (so_far, decimals n ++ 115 ∷ [])
stops n left so_far =
    by_zero n (λ none. rw none (whole-other left so_far 115 [] refl))
    (λ some. rw (is_positive n some) (whole-other left so_far 46 _ refl))

seconds_read : (seconds micros : ℕ) → seconds < 10 ^ 12 → seconds_from (decimal seconds ++ (decimals micros ++ 115 ∷ [])) ≡ Ok (seconds, decimals micros ++ 115 ∷ [])
seconds_read seconds micros few =
    let behind : List ℕ = decimals micros ++ 115 ∷ [] in
    let long = length-decimal-le 12 seconds (omega arith) few (omega (arith, few)) in
    let places : 12 ≡ length (decimal seconds) + (12 - length (decimal seconds)) = omega (arith, long) in
    seconds_begin seconds (omega (arith, few)) behind
    ∙ ap Ok (ap (λ k. whole_from k 0 (decimal seconds ++ behind)) places
    ∙ digits_read seconds (omega (arith, few)) (12 - length (decimal seconds)) behind
    ∙ stops micros (12 - length (decimal seconds)) seconds)

span_read : (micros : ℕ) → micros ≤ most_span → span_from (span_text micros) ≡ Ok micros
unfolding span_from span_text
span_read micros few =
    let seconds = micros / 1_000_000 in
    let part = micros % 1_000_000 in
    let same : seconds * 1_000_000 + part ≡ micros = omega arith in
    bind _ _ _ (seconds_read seconds part (omega (arith, few)))
    ∙ (bind _ _ _ (decimals_read part 115 [] (omega arith) (refl, refl))
    ∙ (bind _ _ _ (byte_read 115 [])
    ∙ ap Ok same))

judged : (len micros : ℕ) → micros ≤ most_span → span_judged len (Ok micros) ≡ Ok micros
unfolding span_judged
judged len micros few = let fits : nat_le micros most_span ≡ true = le-leb _ _ few in rw fits refl

some_bytes : (micros : ℕ) → micros ≤ most_span → (length (span_text micros) == 0) ≡ false
unfolding span_text
some_bytes micros few =
    let some = decimal_nonempty (micros / 1_000_000) (omega (arith, few)) in
    is_positive _ (omega (arith, some, length-append (decimal (micros / 1_000_000)) (decimals (micros % 1_000_000) ++ 115 ∷ [])))

pub printed_span_is_read : (micros : ℕ) → micros ≤ most_span → span_of (span_text micros) ≡ Ok micros
printed_span_is_read micros few = rw (some_bytes micros few, span_read micros few) (judged _ micros few)

pub decimals_are_fewest : DecimalsAreFewest
decimals_are_fewest micros few =
    by_zero micros (λ none. rw none ((λ e. refl, λ e. refl), (λ e. absurd (omega (arith, e)), λ h. absurd (h.0 refl)), (λ e. absurd (omega (arith, e)), λ h. absurd (h refl))))
    (λ some. let has = is_positive micros some in
    by_zero (micros % 1000)
    (λ whole. rw (has, whole) ((λ e. cc, λ e. absurd (omega (arith, e, some))), (λ e. (λ n. absurd (omega (arith, n, some)), refl), λ h. refl), (λ e. absurd (omega (arith, e)), λ h. absurd (h refl))))
    (λ more. let parts = is_positive (micros % 1000) more in
    rw (has, parts) ((λ e. cc, λ e. absurd (omega (arith, e, some))), (λ e. absurd (omega (arith, e)), λ h. absurd (omega (arith, h.1, more))), (λ e. λ n. absurd (omega (arith, n, more)), λ h. refl))))
