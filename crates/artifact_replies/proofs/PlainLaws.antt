-- Texts in which no byte needs an escape, among them those in base64.
use Rattle.std.proofs.Common.{◌≡◌, ◌<◌, ◌+◌, ◌*◌, ◌/◌, ◌%◌, ◌==◌, ◌&&◌, ℕ, zero, suc, Bool, true, false, List, [], ◌∷◌, ◌++◌, length, replicate, slice_index, codes, Some, None, inl, inr, refl, ap, ◌∙◌, append_assoc, append-nil, arith}
use Rattle.std.specs.List.{list_all}
use Rattle.std.proofs.lemmas.Bool.{and_parts, and_from, cases_lt, eqb-true}
use Rattle.std.proofs.lemmas.Bool.Decides.{nat_tests}
use Rattle.std.proofs.lemmas.List.{nil_from_length}
use Rattle.std.proofs.lemmas.List.Folds.{list_all-append}
use Rattle.json.specs.Print.{escape_byte, escape, quoted}
use Rattle.base64.specs.Engines.{standard}
use Rattle.base64.specs.GeneralPurpose.{encode_of, IsBytes}
use Rattle.base64.specs.Rfc4648.{encode_symbols, padding_len}
use Rattle.base64.proofs.EngineFacts.{encode_of-nil}
use Rattle.serde_json.specs.Data.{string}
use Rattle.artifact_forms.specs.ResultForms.Shown.{unless_empty}
use Rattle.artifact_forms.specs.Files.{contents_shown}
use Rattle.artifact_replies.specs.Texts.{is_plain, key_text, member_text}

as_itself : (b : ℕ) → is_plain b ≡ true → escape_byte b ≡ b ∷ []
unfolding escape_byte
as_itself b is = grind (arith, nat_tests)

escaped_alone : (text : List ℕ) → list_all is_plain text ≡ true → escape text ≡ text
escaped_alone [] all = refl
escaped_alone (b ∷ bs) all =
    let both = and_parts (is_plain b) (list_all is_plain bs) all in
    rw (as_itself b both.0, escaped_alone bs both.1) refl

-- such a text stands in quotes as it is
pub quoted_plain : (text : List ℕ) → list_all is_plain text ≡ true → quoted text ≡ 34 ∷ (text ++ 34 ∷ [])
quoted_plain text all = ap (λ (t : List ℕ). 34 ∷ (t ++ 34 ∷ [])) (escaped_alone text all)

in_quotes : (old text : List ℕ) → old ++ 34 ∷ [] ++ text ++ 34 ∷ [] ≡ old ++ 34 ∷ (text ++ 34 ∷ [])
in_quotes old text = simp append_assoc

pub plain_done : (text old o1 o2 o3 : List ℕ) → list_all is_plain text ≡ true → o1 ≡ old ++ 34 ∷ [] → o2 ≡ o1 ++ text → o3 ≡ o2 ++ 34 ∷ []
    → o3 ≡ old ++ quoted text
plain_done text old o1 o2 o3 all e1 e2 e3 = rw (e3, e2, e1, quoted_plain text all) (in_quotes old text)

-- ---- base64

abbrev all_plain : List ℕ → ℕ → Bool
all_plain t zero = true
all_plain t (suc n) = is_plain (slice_index t n) && all_plain t n

plain_below : (t : List ℕ) (n k : ℕ) → all_plain t n ≡ true → k < n → is_plain (slice_index t k) ≡ true
plain_below t zero k all lt = absurd (omega arith)
plain_below t (suc n) k all lt =
    let parts = and_parts (is_plain (slice_index t n)) (all_plain t n) all in
    elim (cases_lt k n) [
      | inl below ↦ plain_below t n k parts.1 below
      | inr top ↦
          let e : k ≡ n = omega arith in
          rw e parts.0
    ]

module _ (t : List ℕ) (table : all_plain t 64 ≡ true) where
  at : (k : ℕ) → k < 64 → is_plain (slice_index t k) ≡ true
  at k lt = plain_below t 64 k table lt

  symbols_plain : (bs : List ℕ) → IsBytes bs → list_all is_plain (encode_symbols t bs) ≡ true
  unfolding encode_symbols
  symbols_plain [] are = refl
  symbols_plain (a ∷ []) are =
      let fa : a < 256 = are 0 in
      and_from _ _ (at (a / 4) (omega arith)) (and_from _ _ (at (a % 4 * 16) (omega arith)) refl)
  symbols_plain (a ∷ b ∷ []) are =
      let fa : a < 256 = are 0 in
      let fb : b < 256 = are 1 in
      and_from _ _ (at (a / 4) (omega arith)) (and_from _ _ (at (a % 4 * 16 + b / 16) (omega arith)) (and_from _ _ (at (b % 16 * 4) (omega arith)) refl))
  symbols_plain (a ∷ b ∷ c ∷ rest) are =
      let fa : a < 256 = are 0 in
      let fb : b < 256 = are 1 in
      let fc : c < 256 = are 2 in
      let others = symbols_plain rest (λ k. are (suc (suc (suc k)))) in
      and_from _ _ (at (a / 4) (omega arith)) (and_from _ _ (at (a % 4 * 16 + b / 16) (omega arith))
      (and_from _ _ (at (b % 16 * 4 + c / 64) (omega arith)) (and_from _ _ (at (c % 64) (omega arith)) others)))

padding_plain : (n b : ℕ) → is_plain b ≡ true → list_all is_plain (replicate n b) ≡ true
padding_plain zero b is = refl
padding_plain (suc n) b is = and_from _ _ is (padding_plain n b is)

both_plain : (xs ys : List ℕ) → list_all is_plain xs ≡ true → list_all is_plain ys ≡ true → list_all is_plain (xs ++ ys) ≡ true
both_plain xs ys one two = list_all-append is_plain xs ys ∙ and_from _ _ one two

pub encoded_plain : (bytes : List ℕ) → IsBytes bytes → list_all is_plain (encode_of standard bytes) ≡ true
encoded_plain bytes are =
    both_plain (encode_symbols standard.encode_table bytes) (replicate (padding_len (length bytes)) 61)
    (symbols_plain standard.encode_table refl bytes are) (padding_plain (padding_len (length bytes)) 61 refl)

-- ---- contents

shown_some : (b : ℕ) (bs : List ℕ) → contents_shown (b ∷ bs) ≡ Some (string (encode_of standard (b ∷ bs)))
unfolding encode_symbols
shown_some a [] = refl
shown_some a (b ∷ []) = refl
shown_some a (b ∷ c ∷ rest) = refl

no_bytes : (bytes : List ℕ) → (length bytes == 0) ≡ true → bytes ≡ []
no_bytes bytes e = nil_from_length bytes (eqb-true (length bytes) 0 e)

pub nothing_shown : (old bytes : List ℕ) → (length bytes == 0) ≡ true → old ≡ old ++ member_text true (codes "contents") (contents_shown bytes)
nothing_shown old bytes e =
    let none : contents_shown bytes ≡ None = ap contents_shown (no_bytes bytes e) ∙ ap unless_empty (encode_of-nil standard) in
    rw (none, append-nil) refl

grouped : (old key text : List ℕ) → old ++ key ++ 34 ∷ [] ++ text ++ 34 ∷ [] ≡ old ++ (key ++ 34 ∷ (text ++ 34 ∷ []))
grouped old key text = simp append_assoc

pub contents_done : (bytes old o1 o2 o3 o4 : List ℕ) → IsBytes bytes → (length bytes == 0) ≡ false → o1 ≡ old ++ key_text true (codes "contents")
    → o2 ≡ o1 ++ 34 ∷ [] → o3 ≡ o2 ++ encode_of standard bytes → o4 ≡ o3 ++ 34 ∷ [] → o4 ≡ old ++ member_text true (codes "contents") (contents_shown bytes)
contents_done [] old o1 o2 o3 o4 are some e1 e2 e3 e4 = absurd cc
contents_done (b ∷ bs) old o1 o2 o3 o4 are some e1 e2 e3 e4 =
    let text : List ℕ = encode_of standard (b ∷ bs) in
    rw (shown_some b bs, e4, e3, e2, e1, quoted_plain text (encoded_plain (b ∷ bs) are)) (grouped old (key_text true (codes "contents")) text)
