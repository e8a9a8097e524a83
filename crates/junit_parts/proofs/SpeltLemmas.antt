-- What is read of a value is its text, or its first faulty reference.
use Rattle.std.proofs.Common.{◌≡◌, ◌<◌, ◌≤◌, ℕ, zero, suc, true, false, List, [], ◌∷◌, length, Option, Some, None, Result, Ok, Err, encode_utf8, refl, sym, ap, subst, ◌∙◌, arith, length-append}
use Rattle.std.specs.Prelude.{◌==◌}
use Rattle.std.proofs.lemmas.Bool.Decides.{nat_tests}
use Rattle.junit_parts.specs.Grammar.{IsFaulty, IsReference, IsValue, SpellsValue}
use Rattle.junit_parts.specs.Grammar.IsFaulty.{behind_byte, behind_character, broken, entity}
use Rattle.junit_parts.specs.Grammar.IsValue.{byte, character, nothing}
use Rattle.junit_parts.specs.Laws.{ReadValueIsSpelled, SpelledValueIsRead}
use Rattle.junit_parts.specs.References.{reference_from}
use Rattle.junit_parts.specs.Values.{behind_reference, put_text, reference_at, value_from}
use Rattle.junit_parts.specs.declared.faults.Cause.TheVariants.{NotWellFormed, Unsupported}
use Rattle.junit_parts.specs.declared.faults.Flaw.{Flaw}
use Rattle.junit_parts.specs.declared.faults.Unsupported.TheVariants.{Entity}
use Rattle.junit_parts.specs.declared.references.Meaning.{Meaning}
use Rattle.junit_parts.specs.declared.references.Meaning.TheVariants.{Character, Foreign}
use Rattle.junit_parts.proofs.ConstructLemmas.{behind_and, reference_found, reference_read}
use Rattle.junit_parts.proofs.RunLemmas.{by_bool, if_true}
use Rattle.junit_parts.proofs.ValueLemmas.{by_byte, by_flaw, by_reference, no_bytes}

abbrev Read : Type 0
Read = Result (List ℕ) Flaw

says_byte : (b : ℕ) (bs : List ℕ) (r : Read) → (b == 38) ≡ false → SpellsValue bs r → SpellsValue (b ∷ bs) (put_text (b ∷ []) r)
says_byte b bs (Ok text) other is = byte b bs text other is
says_byte b bs (Err flaw) other is = behind_byte b bs flaw other is

says_character : (bytes rest : List ℕ) (c : ℕ) (r : Read) → IsReference bytes (Character c) rest → SpellsValue rest r → SpellsValue bytes (put_text (encode_utf8 c) r)
says_character bytes rest c (Ok text) reference is = character c bytes rest text reference is
says_character bytes rest c (Err flaw) reference is = behind_character c bytes rest flaw reference is

shorter : (bytes rest : List ℕ) (m : Meaning) → IsReference bytes m rest → length rest < length bytes
shorter bytes rest m is = omega (arith, ap length is.enclosed.spelled, length-append is.body (59 ∷ rest))

-- a reference, by what was read behind its `&`
abbrev tail_of : List ℕ → List ℕ
tail_of [] = []
tail_of (b ∷ bs) = bs

behind_first : (bs rest : List ℕ) (m : Meaning) (is : IsReference (38 ∷ bs) m rest) → bs ≡ behind_and is.body rest
behind_first bs rest m is = ap tail_of is.enclosed.spelled

says_reference : (n : ℕ) (bs : List ℕ) → ((rest : List ℕ) → length rest ≤ n → SpellsValue rest (value_from n rest)) → length bs ≤ n → (o : Option (Meaning × List ℕ)) → reference_from bs ≡ o
    → SpellsValue (38 ∷ bs) (behind_reference (λ rest. value_from n rest) (reference_at (length (38 ∷ bs)) o))
says_reference n bs next few None e =
    broken bs
    (λ m rest is. let found : reference_from bs ≡ Some (m, rest) = ap reference_from (behind_first bs rest m is) ∙ reference_found (38 ∷ bs) rest m is in let both : None ≡ Some (m, rest) = sym e ∙ found in cc)
says_reference n bs next few (Some (Character c, rest)) e =
    let is : IsReference (38 ∷ bs) (Character c) rest = reference_read (38 ∷ bs) bs (Character c, rest) refl e in
    says_character (38 ∷ bs) rest c (value_from n rest) is (next rest (omega (arith, few, shorter (38 ∷ bs) rest (Character c) is)))
says_reference n bs next few (Some (Foreign, rest)) e =
    entity (38 ∷ bs) rest (reference_read (38 ∷ bs) bs (Foreign, rest) refl e)

at_and : (n b : ℕ) (bs : List ℕ) → (b == 38) ≡ true → value_from (suc n) (b ∷ bs) ≡ behind_reference (λ rest. value_from n rest) (reference_at (length (38 ∷ bs)) (reference_from bs))
unfolding value_from
at_and n b bs is = if_true (b == 38) _ _ is

value_read : (n : ℕ) (bytes : List ℕ) → length bytes ≤ n → SpellsValue bytes (value_from n bytes)
unfolding value_from
value_read zero [] few = nothing
value_read zero (b ∷ bs) few = absurd (omega (arith, few))
value_read (suc n) [] few = nothing
value_read (suc n) (b ∷ bs) few =
    let Says : Read → Type 0 = λ r. SpellsValue (b ∷ bs) r in
    by_bool (b == 38)
    (λ is.
    let P : ℕ → Type 0 = λ x. SpellsValue (x ∷ bs) (value_from (suc n) (b ∷ bs)) in
    let first : b ≡ 38 = grind (arith, nat_tests, is) in
    let Q : Read → Type 0 = λ r. SpellsValue (38 ∷ bs) r in
    subst P (sym first) (subst Q (sym (at_and n b bs is)) (says_reference n bs (λ rest few. value_read n rest few) (omega (arith, few)) (reference_from bs) refl)))
    (λ other. subst Says (sym (by_byte n b bs other)) (says_byte b bs (value_from n bs) other (value_read n bs (omega (arith, few)))))

pub read_value_is_spelled : ReadValueIsSpelled
read_value_is_spelled bytes = value_read (length bytes) bytes (omega arith)

-- the other way round

at_reference : (n : ℕ) (bytes rest : List ℕ) (c : ℕ) (r : Read) → IsReference bytes (Character c) rest → value_from n rest ≡ r → value_from (suc n) bytes ≡ put_text (encode_utf8 c) r
at_reference n bytes rest c r is e =
    let found : reference_from (behind_and is.body rest) ≡ Some (Character c, rest) = reference_found bytes rest (Character c) is in
    let left = length (38 ∷ behind_and is.body rest) in
    ap (value_from (suc n)) is.enclosed.spelled ∙ by_reference n c (behind_and is.body rest) rest (ap (reference_at left) found) ∙ ap (put_text (encode_utf8 c)) e

fuel_left : (n : ℕ) (bytes rest : List ℕ) (m : Meaning) → length bytes ≤ suc n → IsReference bytes m rest → length rest ≤ n
fuel_left n bytes rest m few is = omega (arith, few, shorter bytes rest m is)

no_fuel : (bytes rest : List ℕ) (m : Meaning) → length bytes ≤ 0 → IsReference bytes m rest → ⊥
no_fuel bytes rest m few is = omega (arith, few, shorter bytes rest m is)

value_met : (n : ℕ) (bytes text : List ℕ) → length bytes ≤ n → IsValue bytes text → value_from n bytes ≡ Ok text
value_met n _ _ few nothing = no_bytes n
value_met zero _ _ few (byte b more text other behind) = absurd (omega (arith, few))
value_met (suc n) _ _ few (byte b more text other behind) =
    by_byte n b more other ∙ ap (put_text (b ∷ [])) (value_met n more text (omega (arith, few)) behind)
value_met zero _ _ few (character c bytes more text is behind) = absurd (no_fuel bytes more (Character c) few is)
value_met (suc n) _ _ few (character c bytes more text is behind) =
    at_reference n bytes more c (Ok text) is (value_met n more text (fuel_left n bytes more (Character c) few is) behind)

none_there : (more : List ℕ) (o : Option (Meaning × List ℕ)) → reference_from more ≡ o → ((m : Meaning) (rest : List ℕ) → ¬ IsReference (38 ∷ more) m rest) → o ≡ None
none_there more None e none = refl
none_there more (Some found) e none = absurd (none found.0 found.1 (reference_read (38 ∷ more) more found refl e))

faulty_met : (n : ℕ) (bytes : List ℕ) (flaw : Flaw) → length bytes ≤ n → IsFaulty bytes flaw → value_from n bytes ≡ Err flaw
faulty_met zero _ _ few (entity bytes more is) = absurd (no_fuel bytes more Foreign few is)
faulty_met (suc n) _ _ few (entity bytes more is) =
    let inner : List ℕ = behind_and is.body more in
    let found : reference_from inner ≡ Some (Foreign, more) = reference_found bytes more Foreign is in
    let here : Flaw = record { left = length (38 ∷ inner); cause = Unsupported Entity } in
    let there : Flaw = record { left = length bytes; cause = Unsupported Entity } in
    let said : here ≡ there = ap (λ (x : List ℕ). let f : Flaw = record { left = length x; cause = Unsupported Entity } in f) (sym is.enclosed.spelled) in
    ap (value_from (suc n)) is.enclosed.spelled ∙ by_flaw n inner here (ap (reference_at (length (38 ∷ inner))) found) ∙ ap Err said
faulty_met zero _ _ few (broken more none) = absurd (omega (arith, few))
faulty_met (suc n) _ _ few (broken more none) =
    let nothing_there : reference_from more ≡ None = none_there more (reference_from more) refl none in
    by_flaw n more (record { left = length (38 ∷ more); cause = NotWellFormed }) (ap (reference_at (length (38 ∷ more))) nothing_there)
faulty_met zero _ _ few (behind_byte b more flaw other behind) = absurd (omega (arith, few))
faulty_met (suc n) _ _ few (behind_byte b more flaw other behind) =
    by_byte n b more other ∙ ap (put_text (b ∷ [])) (faulty_met n more flaw (omega (arith, few)) behind)
faulty_met zero _ _ few (behind_character c bytes more flaw is behind) = absurd (no_fuel bytes more (Character c) few is)
faulty_met (suc n) _ _ few (behind_character c bytes more flaw is behind) =
    at_reference n bytes more c (Err flaw) is (faulty_met n more flaw (fuel_left n bytes more (Character c) few is) behind)

pub spelled_value_is_read : SpelledValueIsRead
spelled_value_is_read bytes (Ok text) is = value_met (length bytes) bytes text (omega arith) is
spelled_value_is_read bytes (Err flaw) is = faulty_met (length bytes) bytes flaw (omega arith) is
