-- The digest of a report, and the ids of requests that begin with it.
use Rattle.std.proofs.Common.{◌≡◌, ◌≢◌, ℕ, zero, suc, ◌-◌, ◌<◌, ◌≤◌, true, List, [], ◌∷◌, ◌++◌, length, get_or, inl, inr, refl, sym, subst, arith}
use Rattle.std.specs.Prelude.{All, slice_index}
use Rattle.std.specs.Int.{to_be_bytes, w32}
use Rattle.std.specs.List.{list_all}
use Rattle.std.proofs.lemmas.Bool.{and_parts, cases_lt}
use Rattle.std.proofs.lemmas.Bool.Decides.{nat_tests}
use Rattle.std.proofs.lemmas.List.{get_or-append_right, get_or_append_left}
use Rattle.std.proofs.lemmas.List.Elements.{All-cons, All-nil}
use Rattle.sha2.specs.Sha256.{digest_bytes, sha256}
use Rattle.sha2.proofs.Facts256.{length-sha256}
use Rattle.hex.specs.Hex.{lower_digits}
use Rattle.hex.proofs.HexLemmas.{length-encode_with}
use Rattle.name_parts.specs.Alphabets.{may_follow}
use Rattle.name_parts.specs.declared.alphabets.Alphabet.TheVariants.{Outcome}
use Rattle.text_kinds.specs.Texts.{IsRequestId}
use Rattle.report_ids.specs.Digests.{IsDigest, IsRequestName, report_digest}
use Rattle.report_ids.proofs.DigitLemmas.{hex_small}

-- ---- its bytes are bytes

word_small : (n k : ℕ) → get_or (to_be_bytes w32 n) k 0 < 256
word_small n zero = omega arith
word_small n (suc zero) = omega arith
word_small n (suc (suc zero)) = omega arith
word_small n (suc (suc (suc zero))) = omega arith
word_small n (suc (suc (suc (suc k)))) = omega arith

bytes_small : (h : List ℕ) (n k : ℕ) → get_or (digest_bytes h n) k 0 < 256
unfolding digest_bytes
bytes_small h zero k = omega arith
bytes_small h (suc n) k =
    let front = digest_bytes h n in
    let word = to_be_bytes w32 (slice_index h n) in
    elim (cases_lt k (length front)) [
      | inl low ↦ subst (λ (b : ℕ). b < 256) (sym (get_or_append_left front word 0 k low)) (bytes_small h n k)
      | inr high ↦ subst (λ (b : ℕ). b < 256) (sym (get_or-append_right front word (length front) k 0 refl high))
          (word_small (slice_index h n) (k - length front))
    ]

digest_small : (m : List ℕ) (k : ℕ) → get_or (sha256 m) k 0 < 256
unfolding sha256
digest_small m k = bytes_small _ 8 k

pub report_digest_digits : (invocation report : List ℕ) → IsDigest (report_digest invocation report)
report_digest_digits invocation report =
    let m = invocation ++ 10 ∷ report in (
      hex_small (sha256 m) (digest_small m),
      omega (arith, length-encode_with lower_digits (sha256 m), length-sha256 m),
    )

-- ---- the id of a request

inked_byte : (b : ℕ) → may_follow Outcome b ≡ true → (33 ≤ b) × (b ≤ 126)
inked_byte b e = (grind (arith, nat_tests), grind (arith, nat_tests))

inked_bytes : (bs : List ℕ) → list_all (may_follow Outcome) bs ≡ true → All (λ b. (33 ≤ b) × (b ≤ 126)) bs
inked_bytes [] all = All-nil (λ (b : ℕ). (33 ≤ b) × (b ≤ 126))
inked_bytes (b ∷ bs) all =
    let parts = and_parts (may_follow Outcome b) (list_all (may_follow Outcome) bs) all in
    All-cons (λ (x : ℕ). (33 ≤ x) × (x ≤ 126)) b bs (inked_byte b parts.0) (inked_bytes bs parts.1)

filled : (text : List ℕ) → 0 < length text → text ≢ []
filled [] some none = absurd (omega (arith, some))
filled (b ∷ bs) some none = absurd cc

pub request_name_is_id : (text : List ℕ) → IsRequestName text → IsRequestId text
request_name_is_id text is = record {
  filled = filled text is.some;
  few = is.most;
  bytes = inked_bytes text is.letters;
}
