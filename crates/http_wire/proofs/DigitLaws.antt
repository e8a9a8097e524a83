-- The number that digits write, digit by digit.
use Rattle.std.proofs.Common.{◌≡◌, ℕ, zero, suc, ◌+◌, ◌-◌, ◌*◌, ◌^◌, ◌<◌, ◌≤◌, List, [], ◌∷◌, length, get_or, take, sym, ap, ◌∙◌, arith}
use Rattle.std.specs.Char.{digit_value}
use Rattle.std.specs.Str.Parse.{AllDigits, digits_value}
use Rattle.std.proofs.lemmas.Int.Digits.{digits_value-lt, digits_value_more}
use Rattle.std.proofs.lemmas.Str.{digit_value_digit}
use Rattle.std.proofs.lemmas.Str.Parse.{digit_from_value, digits_value-take-le}
use Rattle.std.proofs.Math.Nat.{pow-le-pow_right}

digit_at : (bs : List ℕ) (i : ℕ) → AllDigits 10 bs → i < length bs → digit_value (get_or bs i 0) < 10
digit_at [] i all h = absurd (omega arith)
digit_at (b ∷ bs) zero all h = all.0
digit_at (b ∷ bs) (suc i) all h = digit_at bs i all.1 (omega arith)

-- one digit more: what it is, what the number is then, and that it stays small
pub digit_step : (bs : List ℕ) (i number : ℕ) → AllDigits 10 bs → length bs ≤ 10 → i < length bs → number ≡ digits_value 10 (take i bs)
    → (48 ≤ get_or bs i 0) × (number * 10 + (get_or bs i 0 - 48) ≡ digits_value 10 (take (i + 1) bs)) × (number * 10 + (get_or bs i 0 - 48) < 10 ^ 10)
digit_step bs i number all few h is =
    let b = get_or bs i 0 in
    let range = digit_from_value b (digit_at bs i all h) in
    let value = digit_value_digit b range in
    let low : 48 ≤ b = range.0 in
    let digit : b - 48 ≡ digit_value b = omega (arith, value) in
    let next : number * 10 + (b - 48) ≡ digits_value 10 (take (i + 1) bs) =
    ap (λ d. number * 10 + d) digit ∙ ap (λ n. n * 10 + digit_value b) is ∙ sym (digits_value_more 10 bs i h) in
    let whole = digits_value-take-le 10 bs (i + 1) (omega arith) in
    let small = digits_value-lt 10 bs all in
    let some : 0 < 10 = omega arith in
    let tens : 10 ^ length bs ≤ 10 ^ 10 = pow-le-pow_right some few in
    (low, next, omega (arith, next, whole, small, tens))
