-- Lists of bytes, and places that are moved.
use Rattle.std.proofs.Common.{◌≡◌, ℕ, zero, suc, ◌+◌, ◌*◌, ◌^◌, ◌<◌, List, [], ◌∷◌, ◌++◌, length, get_or, drop, Option, Some, None, option_map, refl, ap, arith}
use Rattle.std.proofs.lemmas.Nat.{from_le_bytes-to_le_bytes_2, le_bytes_2}
use Rattle.std.specs.Int.{w16, to_le_bytes}
use Rattle.base64.specs.GeneralPurpose.{IsBytes}

-- lists with fronts of one length are equal in both parts
pub split_front : (a b c d : List ℕ) → length a ≡ length c → a ++ b ≡ c ++ d → (a ≡ c) × (b ≡ d)
split_front [] b [] d same e = (refl, e)
split_front [] b (y ∷ c) d same e = absurd (omega arith)
split_front (x ∷ a) b [] d same e = absurd (omega arith)
split_front (x ∷ a) b (y ∷ c) d same e =
    let heads : x ≡ y = cc in
    let tails : a ++ b ≡ c ++ d = cc in
    let parts = split_front a b c d (omega arith) tails in
    let fronts : a ≡ c = parts.0 in
    ((cc), parts.1)

pub bytes_behind : (n : ℕ) (bytes : List ℕ) → IsBytes bytes → IsBytes (drop n bytes)
bytes_behind zero bytes are = are
bytes_behind (suc n) [] are = are
bytes_behind (suc n) (b ∷ bytes) are = bytes_behind n bytes (λ i. are (suc i))

-- a length in two bytes
pub two_bytes : (n : ℕ) → n < 2 ^ 16 → (low : ℕ) × (high : ℕ) × (to_le_bytes w16 n ≡ low ∷ high ∷ []) × (low + 256 * high ≡ n)
two_bytes n small =
    let back = from_le_bytes-to_le_bytes_2 n small in
    (get_or (to_le_bytes w16 n) 0 0, get_or (to_le_bytes w16 n) 1 0, refl, omega (arith, back))

pub bytes_two : (low high : ℕ) → low < 256 → high < 256 → to_le_bytes w16 (low + 256 * high) ≡ low ∷ high ∷ []
bytes_two low high l h =
    le_bytes_2 (low ∷ high ∷ []) (low + 256 * high) refl (two low high l h) (omega arith)
  where
    two : (low high : ℕ) → low < 256 → high < 256 → (i : ℕ) → get_or (low ∷ high ∷ []) i 0 < 256
    two low high l h zero = l
    two low high l h (suc zero) = h
    two low high l h (suc (suc i)) = omega arith

pub unmoved : (o : Option ℕ) → option_map (λ n. 0 + n) o ≡ o
unmoved None = refl
unmoved (Some n) = ap Some (omega arith)

pub moved_twice : (a b : ℕ) (o : Option ℕ) → option_map (λ n. a + n) (option_map (λ n. b + n) o) ≡ option_map (λ n. a + b + n) o
moved_twice a b None = refl
moved_twice a b (Some n) = ap Some (omega arith)
