-- The set of the code is what doesn't stand as itself, and so what it encodes is the one spelling.
use Rattle.std.proofs.Common.{◌≡◌, ℕ, zero, suc, ◌<◌, ◌≤◌, Bool, true, false, not, ◌&&◌, cond, ltb, List, [], ◌∷◌, ◌++◌, length, take, get_or, ◌+◌, append-nil, length-append, inl, inr, refl, sym, ap, ◌∙◌, arith}
use Rattle.std.specs.List.{flat_map}
use Rattle.std.proofs.lemmas.Grind.{flat_map-append}
use Rattle.std.proofs.lemmas.List.{take_more}
use Rattle.std.proofs.lemmas.Bool.{cases_Bool, ltb-true, ltb-false}
use Rattle.std.proofs.lemmas.Bool.Decides.{Decides-below_and, nat_tests}
use Rattle.percent_encoding.specs.Percent.{encode_byte, percent_encode, percent_encode_byte}
use Rattle.percent_encoding.specs.AsciiSet.{should_percent_encode}
use Rattle.percent_encoding.proofs.OnLiterals.{percent_encoding_on_literals}
use Rattle.name_parts.specs.declared.escapes.TheConstants.{NAME_SET}
use Rattle.name_parts.specs.Escapes.{escaped, is_plain, spelling}

-- the set and the definition say the same of the byte
abbrev agree : ℕ → Bool
agree b = cond (should_percent_encode NAME_SET b) (not (is_plain b)) (is_plain b)

abbrev agree_below : ℕ → Bool
agree_below zero = true
agree_below (suc n) = agree n && agree_below n

table_agrees : agree_below 128 ≡ true
unfolding percent_encoding_on_literals
table_agrees = refl

ascii_agrees : (b : ℕ) → b < 128 → agree b ≡ true
ascii_agrees =
    (Decides-below_and agree (λ b. agree b ≡ true) agree_below (λ b. (λ e. e, λ e. e)) refl (λ _. refl) 128).0 table_agrees

same_test : (encoded plain : Bool) → cond encoded (not plain) plain ≡ true → encoded ≡ not plain
same_test true true e = sym e
same_test true false e = refl
same_test false true e = refl
same_test false false e = e

beyond_encoded : (b : ℕ) → 128 ≤ b → should_percent_encode NAME_SET b ≡ true
unfolding should_percent_encode
beyond_encoded b large = grind (arith, nat_tests)

beyond_not_plain : (b : ℕ) → 128 ≤ b → is_plain b ≡ false
beyond_not_plain b large = grind (arith, nat_tests)

pub encoded-is : (b : ℕ) → should_percent_encode NAME_SET b ≡ not (is_plain b)
encoded-is b =
    elim (cases_Bool (ltb b 128)) [
      | inl e ↦ same_test (should_percent_encode NAME_SET b) (is_plain b) (ascii_agrees b (ltb-true b 128 e))
      | inr e ↦ let large = ltb-false b 128 e in beyond_encoded b large ∙ ap not (sym (beyond_not_plain b large))
    ]

cond_not : {A : Type 0} (t : Bool) (x y : A) → cond (not t) x y ≡ cond t y x
cond_not true x y = refl
cond_not false x y = refl

pub encode_byte-is : (b : ℕ) → encode_byte NAME_SET b ≡ spelling b
unfolding spelling
encode_byte-is b = rw (encoded-is b) (cond_not (is_plain b) _ _)

pub percent_encode-is : (bs : List ℕ) → percent_encode NAME_SET bs ≡ escaped bs
unfolding percent_encode escaped
percent_encode-is [] = refl
percent_encode-is (b ∷ bs) = ap (λ (x : List ℕ). x ++ flat_map (encode_byte NAME_SET) bs) (encode_byte-is b) ∙ ap (λ (x : List ℕ). spelling b ++ x) (percent_encode-is bs)

pub escaped-nil : escaped [] ≡ []
unfolding escaped
escaped-nil = refl

pub escaped-append : (xs ys : List ℕ) → escaped (xs ++ ys) ≡ escaped xs ++ escaped ys
unfolding escaped
escaped-append xs ys = flat_map-append spelling xs ys

escaped-one : (b : ℕ) → escaped (b ∷ []) ≡ spelling b
unfolding escaped
escaped-one b = append-nil (spelling b)

-- one more byte
pub escaped-more : (bs : List ℕ) (i : ℕ) → i < length bs → escaped (take (i + 1) bs) ≡ escaped (take i bs) ++ spelling (get_or bs i 0)
escaped-more bs i within =
    ap escaped (take_more bs i 0 within) ∙ escaped-append (take i bs) (get_or bs i 0 ∷ []) ∙ ap (λ (t : List ℕ). escaped (take i bs) ++ t) (escaped-one (get_or bs i 0))

pub spelling-len : (b : ℕ) → length (spelling b) ≡ cond (is_plain b) 1 3
unfolding spelling percent_encode_byte
spelling-len b =
    elim (is_plain b) as (λ t. length (cond t (b ∷ []) (percent_encode_byte b)) ≡ cond t 1 3) [
      | true ↦ refl
      | false ↦ refl
    ]

pub length-escaped-more : (bs : List ℕ) (i : ℕ) → i < length bs → length (escaped (take (i + 1) bs)) ≡ length (escaped (take i bs)) + cond (is_plain (get_or bs i 0)) 1 3
length-escaped-more bs i within =
    ap length (escaped-more bs i within) ∙ length-append (escaped (take i bs)) (spelling (get_or bs i 0)) ∙ ap (λ n. length (escaped (take i bs)) + n) (spelling-len (get_or bs i 0))
