-- A text has no fault just where it is a part.
use Rattle.std.proofs.Common.{◌≡◌, ℕ, suc, ◌+◌, ◌<◌, ◌≤◌, Bool, true, false, not, ◌&&◌, nat_lt, cond, List, [], ◌∷◌, length, Option, Some, None, zero, option_map, lit<, refl, ◌∙◌, arith}
use Rattle.std.specs.List.{list_all, position, prefix_len}
use Rattle.std.specs.Str.{IsAscii, IsUtf8}
use Rattle.std.proofs.lemmas.Bool.{and_parts, ltb-true, ltb-false, le-ltb}
use Rattle.std.proofs.lemmas.Bool.Decides.{nat_tests}
use Rattle.std.proofs.lemmas.Str.{IsUtf8-from_ascii}
use Rattle.name_parts.specs.declared.alphabets.Alphabet.{Alphabet}
use Rattle.name_parts.specs.declared.alphabets.Alphabet.TheVariants.{Invocation, Project, Subrealm, Outcome, Artifact}
use Rattle.name_parts.specs.declared.parts.PartForm.{PartForm}
use Rattle.name_parts.specs.declared.parts.PartForm.TheVariants.{Letters, TestId, PairKey}
use Rattle.name_parts.specs.declared.faults.NameFault.{NameFault}
use Rattle.name_parts.specs.declared.faults.NameFault.TheVariants.{TooLong, BadByte}
use Rattle.name_parts.specs.Alphabets.{may_begin, may_follow}
use Rattle.name_parts.specs.Parts.{has_alphabet, most_bytes, has_letters, IsPart, alphabet_place, bad_place, limited_fault, unempty_fault, part_fault}
use Rattle.name_parts.proofs.TextLemmas.{text_place-None, plain_text-place, plain_text-utf8}
use Rattle.name_parts.proofs.KeyLemmas.{key_place-None, key-place, key-ascii}

-- a test passes everywhere just where none fails
passes_to_the_end : (p : ℕ → Bool) (xs : List ℕ) → list_all p xs ≡ not (nat_lt (prefix_len (λ x. not (not (p x))) xs) (length xs))
passes_to_the_end p [] = refl
passes_to_the_end p (x ∷ xs) =
    elim (p x) as (λ b. (b && list_all p xs) ≡ not (nat_lt (cond (not (not b)) (1 + prefix_len (λ y. not (not (p y))) xs) 0) (suc (length xs)))) [
      | true ↦ passes_to_the_end p xs ∙ grind (arith, nat_tests)
      | false ↦ grind (arith, nat_tests)
    ]

pub none_fails : (p : ℕ → Bool) (xs : List ℕ) → position (λ x. not (p x)) xs ≡ None → list_all p xs ≡ true
none_fails p xs e = grind (arith, passes_to_the_end p xs)

pub all_pass : (p : ℕ → Bool) (xs : List ℕ) → list_all p xs ≡ true → position (λ x. not (p x)) xs ≡ None
all_pass p xs e = grind (arith, passes_to_the_end p xs)

alphabet_place-None : (of : Alphabet) (text : List ℕ) → alphabet_place of text ≡ None → has_alphabet of text ≡ true
alphabet_place-None of [] e = cc
alphabet_place-None of (b ∷ bs) e = grind (arith, none_fails (may_follow of) bs)

alphabet-place : (of : Alphabet) (text : List ℕ) → has_alphabet of text ≡ true → alphabet_place of text ≡ None
alphabet-place of [] e = cc
alphabet-place of (b ∷ bs) e = grind (arith, all_pass (may_follow of) bs)

-- without a bad place the bytes are those of the form, and only then
pub bad_place-None : (form : PartForm) (text : List ℕ) → bad_place form text ≡ None → has_letters form text ≡ true
bad_place-None (Letters of) text e = alphabet_place-None of text e
bad_place-None TestId text e = text_place-None text e
bad_place-None PairKey text e = key_place-None text e

pub letters-bad_place : (form : PartForm) (text : List ℕ) → has_letters form text ≡ true → bad_place form text ≡ None
letters-bad_place (Letters of) text e = alphabet-place of text e
letters-bad_place TestId text e = plain_text-place text e
letters-bad_place PairKey text e = key-place text e

option_map-None : (f : ℕ → NameFault) (o : Option ℕ) → option_map f o ≡ None → o ≡ None
option_map-None f None e = refl
option_map-None f (Some x) e = cc

-- no fault of so many bytes
pub limited_fault-None : (most len : ℕ) (bad : Option ℕ) → limited_fault most len bad ≡ None → (len ≤ most) × (bad ≡ None)
limited_fault-None most len bad =
    elim (nat_lt most len) as (λ t. nat_lt most len ≡ t → cond t (Some (TooLong len)) (option_map BadByte bad) ≡ None → (len ≤ most) × (bad ≡ None)) [
      | true ↦ λ is e. cc
      | false ↦ λ is e. (ltb-false most len is, option_map-None BadByte bad e)
    ] refl

pub limited_fault-from : (most len : ℕ) (bad : Option ℕ) → len ≤ most → bad ≡ None → limited_fault most len bad ≡ None
limited_fault-from most len bad few none = rw (le-ltb most len few, none) refl

-- without a fault it is a part
pub unempty_fault-None : (form : PartForm) (text : List ℕ) → unempty_fault form text ≡ None → IsPart form text
unempty_fault-None form text e =
    let parts = limited_fault-None (most_bytes form) (length text) (bad_place form text) e in
    record { letters = bad_place-None form text parts.1; most = parts.0 }

-- a part has no fault
pub IsPart-unempty_fault : (form : PartForm) (text : List ℕ) → IsPart form text → unempty_fault form text ≡ None
IsPart-unempty_fault form text part =
    limited_fault-from (most_bytes form) (length text) (bad_place form text) part.most (letters-bad_place form text part.letters)

pub part_fault-None : (form : PartForm) (text : List ℕ) → part_fault form text ≡ None → IsPart form text
part_fault-None form [] e = cc
part_fault-None form (b ∷ bs) e = unempty_fault-None form (b ∷ bs) (grind (arith, nat_tests))

pub has_letters-nil : (form : PartForm) → has_letters form [] ≡ false
has_letters-nil (Letters of) = refl
has_letters-nil TestId = refl
has_letters-nil PairKey = refl

pub IsPart-part_fault : (form : PartForm) (text : List ℕ) → IsPart form text → part_fault form text ≡ None
IsPart-part_fault form [] part = let no = has_letters-nil form in let yes : has_letters form [] ≡ true = part.letters in cc
IsPart-part_fault form (b ∷ bs) part = grind (arith, nat_tests, IsPart-unempty_fault form (b ∷ bs) part)

-- every byte of an alphabet is ASCII
pub may_follow-ascii : (of : Alphabet) (b : ℕ) → may_follow of b ≡ true → b < 128
may_follow-ascii Invocation b e = grind (arith, nat_tests)
may_follow-ascii Project b e = grind (arith, nat_tests)
may_follow-ascii Subrealm b e = grind (arith, nat_tests)
may_follow-ascii Outcome b e = grind (arith, nat_tests)
may_follow-ascii Artifact b e = grind (arith, nat_tests)

may_begin-ascii : (of : Alphabet) (b : ℕ) → may_begin of b ≡ true → b < 128
may_begin-ascii Invocation b e = grind (arith, nat_tests)
may_begin-ascii Project b e = may_follow-ascii Project b e
may_begin-ascii Subrealm b e = may_follow-ascii Subrealm b e
may_begin-ascii Outcome b e = may_follow-ascii Outcome b e
may_begin-ascii Artifact b e = may_follow-ascii Artifact b (and_parts _ _ e).1

others_ascii : (of : Alphabet) (bs : List ℕ) → list_all (may_follow of) bs ≡ true → IsAscii bs
others_ascii of [] e i = lit< tt
others_ascii of (b ∷ bs) e zero = may_follow-ascii of b (and_parts _ _ e).0
others_ascii of (b ∷ bs) e (suc i) = others_ascii of bs (and_parts _ _ e).1 i

alphabet-ascii : (of : Alphabet) (text : List ℕ) → has_alphabet of text ≡ true → IsAscii text
alphabet-ascii of [] e i = lit< tt
alphabet-ascii of (b ∷ bs) e zero = may_begin-ascii of b (and_parts _ _ e).0
alphabet-ascii of (b ∷ bs) e (suc i) = others_ascii of bs (and_parts _ _ e).1 i

-- bytes of a form are UTF-8, and so is every part
pub letters-utf8 : (form : PartForm) (text : List ℕ) → has_letters form text ≡ true → IsUtf8 text
letters-utf8 (Letters of) text e = IsUtf8-from_ascii text (alphabet-ascii of text e)
letters-utf8 TestId text e = plain_text-utf8 text e
letters-utf8 PairKey text e = IsUtf8-from_ascii text (key-ascii text e)

pub IsPart-utf8 : (form : PartForm) (text : List ℕ) → IsPart form text → IsUtf8 text
IsPart-utf8 form text part = letters-utf8 form text part.letters

-- what is written out
pub ascii_literal : (text : List ℕ) → list_all (λ b. nat_lt b 128) text ≡ true → IsAscii text
ascii_literal [] e i = lit< tt
ascii_literal (b ∷ bs) e zero = ltb-true b 128 (and_parts _ _ e).0
ascii_literal (b ∷ bs) e (suc i) = ascii_literal bs (and_parts _ _ e).1 i
