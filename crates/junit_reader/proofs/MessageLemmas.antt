-- Where a character begins, and where white space at the end begins.
use Rattle.std.proofs.Common.{◌≡◌, ℕ, zero, suc, ◌+◌, ◌-◌, ◌<◌, ◌≤◌, Bool, true, false, ◌&&◌, nat_lt, List, [], ◌∷◌, ◌++◌, length, take, get_or, refl, sym, ap, ◌∙◌, arith}
use Rattle.std.specs.Prelude.{slice_index, if◌then◌else◌}
use Rattle.std.proofs.lemmas.Bool.{and_parts}
use Rattle.std.proofs.lemmas.Bool.Decides.{nat_tests}
use Rattle.std.proofs.lemmas.List.{length-take-le, take_more}
use Rattle.junit_parts.specs.Bytes.{is_white}
use Rattle.junit_parts.specs.Messages.{boundary, is_inner, solid_len}

pub is_positive : (n : ℕ) (b : Bool) → (nat_lt 0 n && b) ≡ true → 0 < n
is_positive n b e = let first = (and_parts (nat_lt 0 n) b e).0 in grind (arith, nat_tests, first)

above_zero : (n : ℕ) → nat_lt 0 (suc n) ≡ true
above_zero n = grind (arith, nat_tests)

tested : (n : ℕ) (b c : Bool) → (nat_lt 0 (suc n) && b) ≡ c → b ≡ c
tested n b c e = let first = above_zero n in sym (ap (λ t. t && b) first) ∙ e

pub boundary_inside : (n : ℕ) (bytes : List ℕ) → (nat_lt 0 n && is_inner (slice_index bytes n)) ≡ true → boundary (n - 1) bytes ≡ boundary n bytes
unfolding boundary
boundary_inside zero bytes e = refl
boundary_inside (suc n) bytes e =
    let inner : is_inner (slice_index bytes (suc n)) ≡ true = tested n _ _ e in
    let back : suc n - 1 ≡ n = omega arith in
    ap (λ k. boundary k bytes) back ∙ rw inner refl

pub boundary_here : (n : ℕ) (bytes : List ℕ) → (nat_lt 0 n && is_inner (slice_index bytes n)) ≡ false → boundary n bytes ≡ n
unfolding boundary
boundary_here zero bytes e = refl
boundary_here (suc n) bytes e = let inner : is_inner (slice_index bytes (suc n)) ≡ false = tested n _ _ e in rw inner refl

pub solid_some : (b : ℕ) (bs : List ℕ) → nat_lt 0 (solid_len bs) ≡ true → solid_len (b ∷ bs) ≡ suc (solid_len bs)
unfolding solid_len
solid_some b bs some = rw some refl

snoc_white : (b : ℕ) (xs : List ℕ) → is_white b ≡ true → solid_len (xs ++ b ∷ []) ≡ solid_len xs
unfolding solid_len
snoc_white b [] white = rw white refl
snoc_white b (x ∷ xs) white = ap (λ n. if nat_lt 0 n then suc n else (if is_white x then 0 else 1)) (snoc_white b xs white)

snoc_solid : (b : ℕ) (xs : List ℕ) → is_white b ≡ false → solid_len (xs ++ b ∷ []) ≡ suc (length xs)
unfolding solid_len
snoc_solid b [] white = rw white refl
snoc_solid b (x ∷ xs) white =
    ap (λ n. if nat_lt 0 n then suc n else (if is_white x then 0 else 1)) (snoc_solid b xs white)
    ∙ ap (λ t. if t then suc (suc (length xs)) else (if is_white x then 0 else 1)) (above_zero (length xs))

last_of : (n : ℕ) (bytes : List ℕ) → suc n ≤ length bytes → take (suc n) bytes ≡ take n bytes ++ get_or bytes n 0 ∷ []
last_of n bytes within = let same : n + 1 ≡ suc n = omega arith in ap (λ k. take k bytes) (sym same) ∙ take_more bytes n 0 (omega arith)

pub solid_before : (n : ℕ) (bytes : List ℕ) → n ≤ length bytes → (nat_lt 0 n && is_white (slice_index bytes (n - 1))) ≡ true → solid_len (take (n - 1) bytes) ≡ solid_len (take n bytes)
solid_before zero bytes within e = refl
solid_before (suc n) bytes within e =
    let back : suc n - 1 ≡ n = omega arith in
    let white : is_white (get_or bytes n 0) ≡ true = ap (λ k. is_white (get_or bytes k 0)) (sym back) ∙ tested n _ _ e in
    ap (λ k. solid_len (take k bytes)) back ∙ sym (ap solid_len (last_of n bytes within) ∙ snoc_white (get_or bytes n 0) (take n bytes) white)

pub solid_here : (n : ℕ) (bytes : List ℕ) → n ≤ length bytes → (nat_lt 0 n && is_white (slice_index bytes (n - 1))) ≡ false → solid_len (take n bytes) ≡ n
unfolding solid_len
solid_here zero bytes within e = refl
solid_here (suc n) bytes within e =
    let back : suc n - 1 ≡ n = omega arith in
    let white : is_white (get_or bytes n 0) ≡ false = ap (λ k. is_white (get_or bytes k 0)) (sym back) ∙ tested n _ _ e in
    ap solid_len (last_of n bytes within) ∙ snoc_solid (get_or bytes n 0) (take n bytes) white ∙ ap suc (length-take-le n bytes (omega arith))
