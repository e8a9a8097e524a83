-- Numbers without a bit.
use Rattle.std.proofs.Common.{◌≡◌, ℕ, ◌+◌, ◌%◌, ◌<◌, max, bit_or, bit_xor, arith, sym, ap, ◌∙◌}
use Rattle.std.specs.Int.{bit_at}
use Rattle.std.proofs.lemmas.Nat.Bits.{bit_at_or, bit_at_xor, bit_at-lt, bit_at-zero, same_from_bits}

no_bit : (n : ℕ) → n ≡ 0 → (i : ℕ) → bit_at n i ≡ 0
no_bit n z i = ap (λ m. bit_at m i) z ∙ bit_at-zero i

or_bits : (a b : ℕ) → bit_or a b ≡ 0 → (i : ℕ) → max (bit_at a i) (bit_at b i) ≡ 0
or_bits a b z i = sym (bit_at_or a b i) ∙ no_bit _ z i

max_zero : (m n : ℕ) → max m n ≡ 0 → (m ≡ 0) × (n ≡ 0)
max_zero m n z = (omega arith, omega arith)

-- an `or` without a bit has no bit in either
pub or_zero : (a b : ℕ) → bit_or a b ≡ 0 → (a ≡ 0) × (b ≡ 0)
or_zero a b z = (
  same_from_bits a 0 (λ i. (max_zero _ _ (or_bits a b z i)).0 ∙ sym (bit_at-zero i)),
  same_from_bits b 0 (λ i. (max_zero _ _ (or_bits a b z i)).1 ∙ sym (bit_at-zero i)),
)

both_bits : (m n : ℕ) → m < 2 → n < 2 → (m + n) % 2 ≡ 0 → m ≡ n
both_bits m n a b z = omega arith

-- an `xor` without a bit is of the same numbers
pub xor_zero : (a b : ℕ) → bit_xor a b ≡ 0 → a ≡ b
xor_zero a b z = same_from_bits a b (λ i. both_bits _ _ (bit_at-lt a i) (bit_at-lt b i) (sym (bit_at_xor a b i) ∙ no_bit _ z i))

twice_even : (m : ℕ) → (m + m) % 2 ≡ 0
twice_even m = omega arith

xor_itself : (a : ℕ) → bit_xor a a ≡ 0
xor_itself a = same_from_bits (bit_xor a a) 0 (λ i. bit_at_xor a a i ∙ twice_even (bit_at a i) ∙ sym (bit_at-zero i))

-- no bits, and the same two bytes, leave no bits
pub no_bits : (bits a b : ℕ) → bits ≡ 0 → a ≡ b → bit_or bits (bit_xor a b) ≡ 0
no_bits bits a b z e = rw (z, e, xor_itself b)
