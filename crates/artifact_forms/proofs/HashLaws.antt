-- Texts of hashes: each is read as 32 bytes, of which it is the text.
use Rattle.std.proofs.Common.{◌≡◌, ◌≤◌, ◌<◌, ◌+◌, ◌-◌, ◌*◌, ◌/◌, ◌%◌, ◌==◌, ◌&&◌, ℕ, zero, suc, cond, nat_lt, Bool, true, false, List, [], ◌∷◌, ◌++◌, length, drop, codes, slice_index, Some, None, Ok, inl, inr, refl, sym, ap, subst, ◌∙◌, arith}
use Rattle.std.specs.Prelude.{MatchResult}
use Rattle.std.specs.List.{list_all}
use Rattle.std.specs.Char.{is_ascii_digit}
use Rattle.std.proofs.lemmas.Bool.{and_parts, and_from, or_cases, cases_lt, eqb-true, ltb-true}
use Rattle.std.proofs.lemmas.Bool.Decides.{nat_tests}
use Rattle.std.proofs.lemmas.List.{append_cancel_left}
use Rattle.hex.specs.Hex.{lower_digits, encode_with, encode_lower, hex_digit_value, pair_value, decode_pairs, decode_of, decode_sized, IsBytes}
use Rattle.hex.specs.declared.error.FromHexError.{FromHexError}
use Rattle.hex.proofs.Pairs.{decode_pairs-ok_pair, cons_byte}
use Rattle.hex.proofs.HexLemmas.{length-encode_with, decode_pairs-ok, decode_of-even, decode_of-encode_lower, decode_sized-twice}
use Rattle.field_kinds.proofs.NumberLaws.{digit_of}
use Rattle.field_kinds.specs.TextKinds.Hashes.{is_lower_hex, hash_why}
use Rattle.field_kinds.proofs.TextKinds.HashLaws.{only_hashes_are_read}
use Rattle.artifact_forms.specs.Hashes.{IsDigest, hash_text, SpellsHash}

-- ---- the digits, each looked at once

abbrev digit : ℕ → ℕ
digit v = cond (nat_lt v 10) (v + 48) (v + 87)

abbrev right_at : ℕ → Bool
right_at v = (slice_index lower_digits v == digit v) && is_lower_hex (slice_index lower_digits v)

abbrev all_right : ℕ → Bool
all_right zero = true
all_right (suc n) = right_at n && all_right n

right_below : (n v : ℕ) → all_right n ≡ true → v < n → right_at v ≡ true
right_below zero v all lt = absurd (omega arith)
right_below (suc n) v all lt =
    let parts = and_parts (right_at n) (all_right n) all in
    elim (cases_lt v n) [
      | inl below ↦ right_below n v parts.1 below
      | inr top ↦
          let e : v ≡ n = omega arith in
          rw e parts.0
    ]

right_digit : (v : ℕ) → v < 16 → right_at v ≡ true
right_digit v lt = right_below 16 v refl lt

table_digit : (v : ℕ) → v < 16 → slice_index lower_digits v ≡ digit v
table_digit v lt = eqb-true (slice_index lower_digits v) (digit v) (and_parts (slice_index lower_digits v == digit v) _ (right_digit v lt)).0

table_lower : (v : ℕ) → v < 16 → is_lower_hex (slice_index lower_digits v) ≡ true
table_lower v lt = (and_parts (slice_index lower_digits v == digit v) (is_lower_hex (slice_index lower_digits v)) (right_digit v lt)).1

-- the value of a lower-case digit, and its digit again
record IsValue (c v : ℕ) : Type 0 where
  value : hex_digit_value c ≡ Some v
  few : v < 16
  digit : slice_index lower_digits v ≡ c

of_number : (c : ℕ) → 48 ≤ c → c ≤ 57 → IsValue c (c - 48)
of_number c low high = record {
  value = grind (arith, nat_tests);
  few = omega arith;
  digit = table_digit (c - 48) (omega arith) ∙ (let under : nat_lt (c - 48) 10 ≡ true = grind (arith, nat_tests) in rw under (omega arith));
}

of_letter : (c : ℕ) → 97 ≤ c → c ≤ 102 → IsValue c (c - 87)
of_letter c low high = record {
  value = grind (arith, nat_tests);
  few = omega arith;
  digit = table_digit (c - 87) (omega arith) ∙ (let over : nat_lt (c - 87) 10 ≡ false = grind (arith, nat_tests) in rw over (omega arith));
}

has_value : (c : ℕ) → is_lower_hex c ≡ true → (v : ℕ) × IsValue c v
has_value c is = elim (or_cases (is_ascii_digit c) (nat_lt 96 c && nat_lt c 103) is) [
  | inl number ↦ let range = digit_of c number in (c - 48, of_number c range.0 range.1)
  | inr letter ↦
      let parts = and_parts (nat_lt 96 c) (nat_lt c 103) letter in
      let low : 96 < c = ltb-true 96 c parts.0 in
      let high : c < 103 = ltb-true c 103 parts.1 in
      (c - 87, of_letter c (omega arith) (omega arith))
]

-- ---- digits as bytes, and back

pairs_read : (i : ℕ) (s : List ℕ) → length s % 2 ≡ 0 → list_all is_lower_hex s ≡ true
    → (bytes : List ℕ) × (decode_pairs i s ≡ Ok bytes) × (encode_lower bytes ≡ s)
unfolding decode_pairs encode_with
pairs_read i [] even all = ([], refl, refl)
pairs_read i (a ∷ []) even all = absurd (omega arith)
pairs_read i (a ∷ b ∷ rest) even all =
    let first = and_parts (is_lower_hex a) (list_all is_lower_hex (b ∷ rest)) all in
    let second = and_parts (is_lower_hex b) (list_all is_lower_hex rest) first.1 in
    let high = has_value a first.0 in
    let low = has_value b second.0 in
    let h : ℕ = high.0 in
    let l : ℕ = low.0 in
    let h_few : h < 16 = high.1.few in
    let l_few : l < 16 = low.1.few in
    let others = pairs_read (i + 2) rest (omega arith) second.1 in
    let pair : pair_value a b i ≡ Ok (h * 16 + l) = rw (high.1.value, low.1.value) refl in
    let quotient : (h * 16 + l) / 16 ≡ h = omega arith in
    let remainder : (h * 16 + l) % 16 ≡ l = omega arith in (
      (h * 16 + l) ∷ others.0,
      decode_pairs-ok_pair i a b _ rest pair ∙ ap (cons_byte (h * 16 + l)) others.1,
      rw (quotient, remainder, high.1.digit, low.1.digit, others.2) refl,
    )

digits_lower : (bs : List ℕ) → IsBytes bs → list_all is_lower_hex (encode_lower bs) ≡ true
unfolding encode_with
digits_lower [] are = refl
digits_lower (b ∷ bs) are =
    let fits : b < 256 = are 0 in
    and_from _ _ (table_lower (b / 16) (omega arith)) (and_from _ _ (table_lower (b % 16) (omega arith)) (digits_lower bs (λ k. are (suc k))))

-- the bytes of a hash's text
record HasDigest (text : List ℕ) : Type 0 where
  bytes : List ℕ
  decoded : decode_sized (drop 7 text) 32 ≡ Ok bytes
  spelled : SpellsHash text bytes

has_digest : (text : List ℕ) → hash_why text ≡ None → HasDigest text
has_digest text none =
    let is = (only_hashes_are_read text).0 none in
    let digits : List ℕ = is.digits in
    let count : length digits ≡ 64 = is.count in
    let behind : drop 7 text ≡ digits = ap (drop 7) is.whole in
    let pairs = pairs_read 0 digits (omega (arith, count)) is.hexadecimal in
    let ok = decode_pairs-ok 0 digits pairs.0 pairs.1 in
    let size : length digits ≡ 2 * length pairs.0 = ok.1 in
    record {
      bytes = pairs.0;
      decoded = ap (λ (t : List ℕ). decode_sized t 32) behind ∙ decode_sized-twice digits 32 (omega (arith, count))
          ∙ decode_of-even digits (omega (arith, count)) ∙ pairs.1;
      spelled = (
        is.whole ∙ ap (λ (t : List ℕ). codes "sha256:" ++ t) (sym (pairs.2)),
        record { count = omega (arith, count, size); bytes = ok.2 },
      );
    }

-- what the digits behind the front are read as
pub digest_read : (text digits out : List ℕ) (P : List ℕ → Type 0) (Q : FromHexError → Type 0) → hash_why text ≡ None → digits ≡ drop 7 text
    → ((bytes : List ℕ) → P bytes → out ≡ bytes) → MatchResult (decode_sized digits 32) P Q → SpellsHash text out
digest_read text digits out P Q none behind law given =
    let has = has_digest text none in
    let decoded : decode_sized digits 32 ≡ Ok has.bytes = ap (λ (t : List ℕ). decode_sized t 32) behind ∙ has.decoded in
    let same : out ≡ has.bytes = law has.bytes (rw decoded at given) in
    subst (λ (bytes : List ℕ). SpellsHash text bytes) (sym same) has.spelled

pub hash_there : (text : List ℕ) → hash_why text ≡ None → (bytes : List ℕ) × SpellsHash text bytes
hash_there text none = let has = has_digest text none in (has.bytes, has.spelled)

-- the text of 32 bytes is a hash
pub hash_right : (hash : List ℕ) → IsDigest hash → hash_why (hash_text hash) ≡ None
hash_right hash is =
    let size : length (encode_lower hash) ≡ 2 * length hash = length-encode_with lower_digits hash in
    let count : length hash ≡ 32 = is.count in
    (only_hashes_are_read (hash_text hash)).1
    (record { digits = encode_lower hash; whole = refl; hexadecimal = digits_lower hash is.bytes; count = omega (arith, size, count) })

-- and of one hash alone
pub hash_one : (text a b : List ℕ) → SpellsHash text a → SpellsHash text b → a ≡ b
hash_one text a b h k =
    let digits : encode_lower a ≡ encode_lower b = append_cancel_left (codes "sha256:") (encode_lower a) (encode_lower b) (sym (h.0) ∙ k.0) in
    let both : Ok a ≡ Ok b = sym (decode_of-encode_lower a h.1.bytes) ∙ ap decode_of digits ∙ decode_of-encode_lower b k.1.bytes in
    cc
