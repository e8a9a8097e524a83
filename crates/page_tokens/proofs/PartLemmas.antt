-- Parts of keys: a whole one isn't broken, and what isn't broken is whole.
use Rattle.std.proofs.Common.{◌≡◌, ◌≢◌, ℕ, ◌+◌, ◌*◌, ◌^◌, ◌<◌, ◌≤◌, ◌==◌, ◌||◌, nat_lt, Bool, true, false, cond, List, [], ◌∷◌, ◌++◌, length, take, drop, Option, Some, None, option_map, refl, sym, ap, subst, ◌∙◌, arith, length-append, take-append-drop}
use Rattle.std.proofs.lemmas.Bool.Decides.{nat_tests}
use Rattle.std.proofs.lemmas.List.{take_at, length-take-le}
use Rattle.std.specs.Int.{w16, to_le_bytes}
use Rattle.std.specs.Option.{option_or}
use Rattle.base64.specs.GeneralPurpose.{IsBytes}
use Rattle.name_parts.specs.declared.alphabets.Alphabet.TheVariants.{Invocation, Project, Subrealm, Outcome, Artifact}
use Rattle.name_parts.specs.declared.parts.PartForm.{PartForm}
use Rattle.name_parts.specs.declared.parts.PartForm.TheVariants.{Letters, TestId, PairKey}
use Rattle.name_parts.specs.Parts.{IsPart, bad_place, has_letters, most_bytes}
use Rattle.name_parts.proofs.PartLemmas.{bad_place-None, letters-bad_place, has_letters-nil}
use Rattle.page_tokens.specs.declared.keys.KeyPart.{KeyPart}
use Rattle.page_tokens.specs.declared.keys.KeyPart.TheVariants.{Plain, Text}
use Rattle.page_tokens.specs.Keys.{IsContent, content_place, end_place, is_bad_len, part_bytes, part_len, part_place, text_place}
use Rattle.page_tokens.proofs.ByteLemmas.{bytes_two, split_front, two_bytes}

-- no text has more bytes than two bytes tell
pub most_small : (form : PartForm) → most_bytes form < 2 ^ 16
most_small (Letters Invocation) = omega arith
most_small (Letters Project) = omega arith
most_small (Letters Subrealm) = omega arith
most_small (Letters Outcome) = omega arith
most_small (Letters Artifact) = omega arith
most_small TestId = omega arith
most_small PairKey = omega arith

pub enough : (len : ℕ) (bytes : List ℕ) → len ≤ length bytes → end_place len bytes ≡ None
enough len bytes most = let no : nat_lt (length bytes) len ≡ false = grind (arith, nat_tests) in rw no refl

not_short : (t : Bool) (n : ℕ) → cond t (Some n) None ≡ None → t ≡ false
not_short true n e = absurd cc
not_short false n e = refl

pub reaches : (len : ℕ) (bytes : List ℕ) → end_place len bytes ≡ None → len ≤ length bytes
reaches len bytes e = let no = not_short (nat_lt (length bytes) len) (length bytes) e in grind (arith, nat_tests)

-- the length of a text is a right one
pub some_bytes : (form : PartForm) (content : List ℕ) → IsPart form content → content ≢ []
some_bytes form [] part e = let no = has_letters-nil form in let yes : has_letters form [] ≡ true = part.letters in absurd cc
some_bytes form (b ∷ bs) part e = absurd cc

pub right_len : (form : PartForm) (content : List ℕ) → IsPart form content → is_bad_len form (length content) ≡ false
right_len form [] part = absurd (some_bytes form [] part refl)
right_len form (b ∷ bs) part =
    let few = part.most in
    grind (arith, nat_tests)

pub len_small : (form : PartForm) (content : List ℕ) → IsPart form content → length content < 2 ^ 16
len_small form content part = omega (arith, part.most, most_small form)

-- a right length
good_len : (a b : Bool) → (a || b) ≡ false → (a ≡ false) × (b ≡ false)
good_len true b e = absurd cc
good_len false b e = (refl, e)

pub len_fits : (form : PartForm) (len : ℕ) → is_bad_len form len ≡ false → len ≤ most_bytes form
len_fits form len good =
    let both = good_len (len == 0) (nat_lt (most_bytes form) len) good in
    let no : nat_lt (most_bytes form) len ≡ false = both.1 in
    grind (arith, nat_tests)

-- so many bytes of the form are a text of it
pub is_text : (form : PartForm) (len : ℕ) (content : List ℕ) → is_bad_len form len ≡ false → length content ≡ len
    → bad_place form content ≡ None → IsPart form content
is_text form len content good size none =
    record { letters = bad_place-None form content none; most = omega (arith, len_fits form len good, size) }

-- a whole text in front of others
pub whole_content : (form : PartForm) (content rest : List ℕ) → IsPart form content → content_place form (length content) (content ++ rest) ≡ None
whole_content form content rest part =
    rw (take_at content rest (length content) refl, letters-bad_place form content part.letters)
    (enough (length content) (content ++ rest) (omega (arith, length-append content rest)))

pub record IsWhole (part : KeyPart) (content rest : List ℕ) : Type 0 where
  pub place : part_place part (part_bytes part content ++ rest) ≡ None
  pub len : part_len part (part_bytes part content ++ rest) ≡ length (part_bytes part content)

text_is_whole : (form : PartForm) (content rest word : List ℕ) (low high : ℕ) → IsPart form content → word ≡ low ∷ high ∷ [] → low + 256 * high ≡ length content
    → (text_place form ((word ++ content) ++ rest) ≡ None) × (part_len (Text form) ((word ++ content) ++ rest) ≡ length (word ++ content))
text_is_whole form content rest word low high part is size =
    subst (λ (w : List ℕ). (text_place form ((w ++ content) ++ rest) ≡ None) × (part_len (Text form) ((w ++ content) ++ rest) ≡ length (w ++ content))) (sym is)
    (rw (size, right_len form content part, whole_content form content rest part) refl, omega (arith, size))

pub whole_part : (part : KeyPart) (content rest : List ℕ) → IsContent part content → IsWhole part content rest
whole_part (Plain len) content rest size =
    record {
      place = enough len (content ++ rest) (omega (arith, length-append content rest, size));
      len = sym size;
    }
whole_part (Text form) content rest part =
    let two = two_bytes (length content) (len_small form content part) in
    let both = text_is_whole form content rest (to_le_bytes w16 (length content)) two.0 two.1 part two.2 two.3 in
    record { place = both.0; len = both.1 }

-- what stands in front of bytes that aren't broken there
pub record HasFront (part : KeyPart) (bytes : List ℕ) : Type 0 where
  pub content : List ℕ
  pub rest : List ℕ
  pub is : IsContent part content
  pub form : bytes ≡ part_bytes part content ++ rest

pub plain_front : (len : ℕ) (bytes : List ℕ) → end_place len bytes ≡ None → HasFront (Plain len) bytes
plain_front len bytes none =
    record {
      content = take len bytes;
      rest = drop len bytes;
      is = length-take-le len bytes (reaches len bytes none);
      form = sym (take-append-drop len bytes);
    }

neither : (p q : Option ℕ) → option_or p q ≡ None → (p ≡ None) × (q ≡ None)
neither None q e = (refl, e)
neither (Some n) q e = absurd cc

good_text : (bad : Bool) (o : Option ℕ) → cond bad (Some 1) (option_map (λ n. 2 + n) o) ≡ None → (bad ≡ false) × (o ≡ None)
good_text true o e = absurd cc
good_text false None e = (refl, refl)
good_text false (Some n) e = absurd cc

-- the two bytes of a length, a text, and the rest
pub behind_len : (form : PartForm) (low high : ℕ) (content rest : List ℕ) → low < 256 → high < 256 → length content ≡ low + 256 * high
    → low ∷ high ∷ (content ++ rest) ≡ part_bytes (Text form) content ++ rest
behind_len form low high content rest l h size =
    let word : to_le_bytes w16 (length content) ≡ low ∷ high ∷ [] = ap (to_le_bytes w16) size ∙ bytes_two low high l h in
    ap (λ (w : List ℕ). (w ++ content) ++ rest) (sym word)

text_front : (form : PartForm) (bytes : List ℕ) → IsBytes bytes → text_place form bytes ≡ None → HasFront (Text form) bytes
text_front form [] are e = absurd cc
text_front form (low ∷ []) are e = absurd cc
text_front form (low ∷ high ∷ bytes) are e =
    let len : ℕ = low + 256 * high in
    let both = good_text (is_bad_len form len) (content_place form len bytes) e in
    let parts = neither (bad_place form (take len bytes)) (end_place len bytes) both.1 in
    let size : length (take len bytes) ≡ len = length-take-le len bytes (reaches len bytes parts.1) in
    record {
      content = take len bytes;
      rest = drop len bytes;
      is = is_text form len (take len bytes) both.0 size parts.0;
      form = ap (λ (b : List ℕ). low ∷ high ∷ b) (sym (take-append-drop len bytes)) ∙ behind_len form low high (take len bytes) (drop len bytes) (are 0) (are 1) size;
    }

pub has_front : (part : KeyPart) (bytes : List ℕ) → IsBytes bytes → part_place part bytes ≡ None → HasFront part bytes
has_front (Plain len) bytes are none = plain_front len bytes none
has_front (Text form) bytes are none = text_front form bytes are none

-- two parts in front of the same bytes hold the same
one_content : (part : KeyPart) (c d : List ℕ) → length c ≡ length d → part_bytes part c ≡ part_bytes part d → c ≡ d
one_content (Plain len) c d size e = e
one_content (Text form) c d size e = (split_front (to_le_bytes w16 (length c)) c (to_le_bytes w16 (length d)) d refl e).1

len_of : (part : KeyPart) (c d : List ℕ) → length (part_bytes part c) ≡ length (part_bytes part d) → length c ≡ length d
len_of (Plain len) c d e = e
len_of (Text form) c d e =
    let front = length-append (to_le_bytes w16 (length c)) c in
    let other = length-append (to_le_bytes w16 (length d)) d in
    omega (arith, e, front, other)

pub one_front : (part : KeyPart) (c d x y : List ℕ) → IsContent part c → IsContent part d → part_bytes part c ++ x ≡ part_bytes part d ++ y
    → (c ≡ d) × (x ≡ y)
one_front part c d x y is_c is_d e =
    let lens : length (part_bytes part c) ≡ length (part_bytes part d) =
    sym (whole_part part c x is_c).len ∙ ap (part_len part) e ∙ (whole_part part d y is_d).len in
    let both = split_front (part_bytes part c) x (part_bytes part d) y lens e in
    (one_content part c d (len_of part c d lens) both.0, both.1)
