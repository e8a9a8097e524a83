-- A part is bytes, and an escaped one has no slash.
use Rattle.std.proofs.Common.{◌≡◌, inl, inr, ⊎_elim, ℕ, ◌+◌, ◌/◌, ◌%◌, ◌<◌, All, true, false, not, List, [], ◌∷◌, ltb, refl, sym, ap, subst, ◌∙◌, arith}
use Rattle.std.specs.Prelude.{◌==◌}
use Rattle.std.specs.List.{list_all}
use Rattle.std.specs.Str.{IsUtf8}
use Rattle.std.proofs.lemmas.Bool.{cond_both, and_parts, and_from, ltb-true, cases_Bool, both_ways, eqb-true, not_from_false}
use Rattle.std.proofs.lemmas.Bool.Decides.{nat_tests}
use Rattle.std.proofs.lemmas.List.Elements.{All-nil, All-cons, All-head, All-tail, All-append}
use lib.Utf8.{scalar, scalars, encode, encodes, scalar_cases}
use Rattle.percent_encoding.specs.Percent.{percent_decode}
use Rattle.percent_encoding.specs.AsciiSet.{should_percent_encode}
use Rattle.percent_encoding.proofs.PercentLemmas.{IsByte, IsEscapeByte, All-percent_encode}
use Rattle.percent_encoding.proofs.OnLiterals.{percent_encoding_on_literals}
use Rattle.name_parts.specs.declared.escapes.TheConstants.{NAME_SET}
use Rattle.name_parts.specs.declared.parts.PartForm.{PartForm}
use Rattle.name_parts.specs.declared.alphabets.Alphabet.TheVariants as alphabet
use Rattle.name_parts.specs.declared.parts.PartForm.TheVariants.{Letters}
use Rattle.name_parts.specs.Alphabets.{may_begin, may_follow}
use Rattle.name_parts.specs.Parts.{IsPart, has_letters}
use Rattle.name_parts.specs.Escapes.{escaped}
use Rattle.name_parts.proofs.PartLemmas.{letters-utf8}
use Rattle.name_parts.proofs.SpellingLemmas.{percent_encode-is}
use Rattle.name_parts.proofs.EscapeLemmas.{decoded}

small_scalar : (c : ℕ) → scalar c ≡ true → c < 1_114_112
small_scalar c e = ⊎_elim (λ (low : c < 55_296). omega arith) (λ high. high.1) (scalar_cases c e)

one : (a : ℕ) → a < 256 → All IsByte (a ∷ [])
one a h = All-cons IsByte a [] h (All-nil IsByte)

two : (a b : ℕ) → a < 256 → b < 256 → All IsByte (a ∷ b ∷ [])
two a b h i = All-cons IsByte a (b ∷ []) h (one b i)

three : (a b c : ℕ) → a < 256 → b < 256 → c < 256 → All IsByte (a ∷ b ∷ c ∷ [])
three a b c h i j = All-cons IsByte a (b ∷ c ∷ []) h (two b c i j)

four : (a b c d : ℕ) → a < 256 → b < 256 → c < 256 → d < 256 → All IsByte (a ∷ b ∷ c ∷ d ∷ [])
four a b c d h i j k = All-cons IsByte a (b ∷ c ∷ d ∷ []) h (three b c d i j k)

-- the one to four bytes of a character
pub encode-bytes : (c : ℕ) → c < 1_114_112 → All IsByte (encode c)
unfolding encode
encode-bytes c small =
    cond_both (ltb c 128) _ _ (All IsByte)
    (λ e. let low = ltb-true c 128 e in one c (omega arith))
    (λ _. cond_both (ltb c 2048) _ _ (All IsByte)
    (λ e. let low = ltb-true c 2048 e in two (192 + c / 64) (128 + c % 64) (omega arith) (omega arith))
    (λ _. cond_both (ltb c 65_536) _ _ (All IsByte)
    (λ e. let low = ltb-true c 65_536 e in three (224 + c / 4096) (128 + c / 64 % 64) (128 + c % 64) (omega arith) (omega arith) (omega arith))
    (λ _. four (240 + c / 262_144) (128 + c / 4096 % 64) (128 + c / 64 % 64) (128 + c % 64) (omega arith) (omega arith) (omega arith) (omega arith))))

encodes-bytes : (cs : List ℕ) → scalars cs ≡ true → All IsByte (encodes cs)
encodes-bytes [] e = All-nil IsByte
encodes-bytes (c ∷ cs) e =
    let parts = and_parts _ _ e in
    All-append IsByte (encode c) (encodes cs) (encode-bytes c (small_scalar c parts.0)) (encodes-bytes cs parts.1)

utf8-bytes : (text : List ℕ) → IsUtf8 text → All IsByte text
utf8-bytes text (cs, valid) = subst (λ (bs : List ℕ). All IsByte bs) valid.1 (encodes-bytes cs valid.0)

pub letters-bytes : (form : PartForm) (text : List ℕ) → has_letters form text ≡ true → All IsByte text
letters-bytes form text e = utf8-bytes text (letters-utf8 form text e)

pub IsPart-bytes : (form : PartForm) (text : List ℕ) → IsPart form text → All IsByte text
IsPart-bytes form text part = letters-bytes form text part.letters

-- one text spells at most one part
pub unescaped : (form : PartForm) (x y : List ℕ) → IsPart form x → IsPart form y → escaped x ≡ escaped y → x ≡ y
unescaped form x y is is' e =
    sym (decoded x (IsPart-bytes form x is)) ∙ ap percent_decode e ∙ decoded y (IsPart-bytes form y is')

-- a byte other than a slash
abbrev IsNoSlash : ℕ → Type 0
IsNoSlash b = not (b == 47) ≡ true

slash_is_escaped : should_percent_encode NAME_SET 47 ≡ true
unfolding percent_encoding_on_literals
slash_is_escaped = refl

kept_no_slash : (b : ℕ) → should_percent_encode NAME_SET b ≡ false → IsNoSlash b
kept_no_slash b kept =
    elim (cases_Bool (b == 47)) [
      | inl same ↦ let is : b ≡ 47 = eqb-true b 47 same in absurd (both_ways (should_percent_encode NAME_SET b) kept (ap (should_percent_encode NAME_SET) is ∙ slash_is_escaped))
      | inr other ↦ not_from_false (b == 47) other
    ]

escape_no_slash : (b : ℕ) → IsEscapeByte b → IsNoSlash b
escape_no_slash b e = grind (arith, nat_tests)

all_test : (xs : List ℕ) → All IsNoSlash xs → list_all (λ x. not (x == 47)) xs ≡ true
all_test [] all = refl
all_test (x ∷ xs) all = and_from _ _ (All-head IsNoSlash x xs all) (all_test xs (All-tail IsNoSlash x xs all))

pub escaped_without_slash : (bs : List ℕ) → list_all (λ x. not (x == 47)) (escaped bs) ≡ true
escaped_without_slash bs =
    all_test (escaped bs) (subst (λ (t : List ℕ). All IsNoSlash t) (percent_encode-is bs) (All-percent_encode IsNoSlash NAME_SET bs kept_no_slash escape_no_slash))

begin_no_slash : (b : ℕ) → may_begin alphabet.Invocation b ≡ true → IsNoSlash b
begin_no_slash b e = grind (arith, nat_tests)

follow_no_slash : (b : ℕ) → may_follow alphabet.Invocation b ≡ true → IsNoSlash b
follow_no_slash b e = grind (arith, nat_tests)

follow_all : (bs : List ℕ) → list_all (may_follow alphabet.Invocation) bs ≡ true → list_all (λ x. not (x == 47)) bs ≡ true
follow_all [] e = refl
follow_all (b ∷ bs) e = let parts = and_parts _ _ e in and_from _ _ (follow_no_slash b parts.0) (follow_all bs parts.1)

pub invocation_without_slash : (bs : List ℕ) → IsPart (Letters alphabet.Invocation) bs → list_all (λ x. not (x == 47)) bs ≡ true
invocation_without_slash [] part = refl
invocation_without_slash (b ∷ bs) part =
    let parts = and_parts _ _ part.letters in and_from _ _ (begin_no_slash b parts.0) (follow_all bs parts.1)

outcome_no_slash : (b : ℕ) → may_follow alphabet.Outcome b ≡ true → IsNoSlash b
outcome_no_slash b e = grind (arith, nat_tests)

outcome_all : (bs : List ℕ) → list_all (may_follow alphabet.Outcome) bs ≡ true → list_all (λ x. not (x == 47)) bs ≡ true
outcome_all [] e = refl
outcome_all (b ∷ bs) e = let parts = and_parts _ _ e in and_from _ _ (outcome_no_slash b parts.0) (outcome_all bs parts.1)

pub result_without_slash : (bs : List ℕ) → IsPart (Letters alphabet.Outcome) bs → list_all (λ x. not (x == 47)) bs ≡ true
result_without_slash [] is = refl
result_without_slash (b ∷ bs) is =
    let parts = and_parts _ _ is.letters in and_from _ _ (outcome_no_slash b parts.0) (outcome_all bs parts.1)
