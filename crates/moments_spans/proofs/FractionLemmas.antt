-- Digits behind a point, one after another.
use Rattle.std.proofs.Common.{◌≡◌, ◌≤◌, ◌<◌, ◌^◌, lit<, ℕ, zero, suc, ◌+◌, ◌-◌, ◌*◌, ◌/◌, true, false, List, [], ◌∷◌, arith, refl}
use Rattle.std.proofs.lemmas.Bool.Decides.{nat_tests}
use Rattle.std.proofs.Math.Nat.{pow-le-pow_right}
use Rattle.std.proofs.lemmas.Nat.{pow-add}
use Rattle.std.specs.Char.{is_ascii_digit}
use Rattle.moments_spans.specs.MomentReading.{fraction_from}
use Rattle.moments_spans.specs.SpanReading.{whole_from}

pub fraction-digit : (left next worth so_far b : ℕ) (bs : List ℕ) → left ≡ suc next → is_ascii_digit b ≡ true → fraction_from left worth so_far (b ∷ bs) ≡ fraction_from next (worth / 10) (so_far + worth * (b - 48)) bs
unfolding fraction_from
fraction-digit left next worth so_far b bs is digit = rw is (rw digit refl)

pub fraction-other : (left worth so_far b : ℕ) (bs : List ℕ) → is_ascii_digit b ≡ false → fraction_from left worth so_far (b ∷ bs) ≡ (so_far, b ∷ bs)
unfolding fraction_from
fraction-other zero worth so_far b bs other = refl
fraction-other (suc left) worth so_far b bs other = rw other refl

pub fraction-end : (left worth so_far : ℕ) → fraction_from left worth so_far [] ≡ (so_far, [])
unfolding fraction_from
fraction-end zero worth so_far = refl
fraction-end (suc left) worth so_far = refl

pub fraction-zero : (worth so_far : ℕ) (text : List ℕ) → fraction_from 0 worth so_far text ≡ (so_far, text)
unfolding fraction_from
fraction-zero worth so_far text = refl

pub digit-value : (b : ℕ) → is_ascii_digit b ≡ true → b - 48 ≤ 9
digit-value b e = grind (arith, nat_tests)

-- digits before a point

pub whole-digit : (left next so_far b : ℕ) (bs : List ℕ) → left ≡ suc next → is_ascii_digit b ≡ true → whole_from left so_far (b ∷ bs) ≡ whole_from next (10 * so_far + (b - 48)) bs
unfolding whole_from
whole-digit left next so_far b bs is digit = rw is (rw digit refl)

pub whole-other : (left so_far b : ℕ) (bs : List ℕ) → is_ascii_digit b ≡ false → whole_from left so_far (b ∷ bs) ≡ (so_far, b ∷ bs)
unfolding whole_from
whole-other zero so_far b bs other = refl
whole-other (suc left) so_far b bs other = rw other refl

pub whole-end : (left so_far : ℕ) → whole_from left so_far [] ≡ (so_far, [])
unfolding whole_from
whole-end zero so_far = refl
whole-end (suc left) so_far = refl

pub whole-zero : (so_far : ℕ) (text : List ℕ) → whole_from 0 so_far text ≡ (so_far, text)
unfolding whole_from
whole-zero so_far text = refl

-- a number of so many digits
pub ten_below : (n place : ℕ) → n < 10 ^ place → place ≤ 12 → n < 1_000_000_000_000
ten_below n place few least =
    let most : 10 ^ place ≤ 10 ^ 12 = pow-le-pow_right (lit< tt) least in
    omega (arith, few, most)

pub ten_below_more : (n place d : ℕ) → n < 10 ^ place → d ≤ 9 → 10 * n + d < 10 ^ (place + 1)
ten_below_more n place d few nine = omega (arith, few, nine, pow-add 10 place 1)
