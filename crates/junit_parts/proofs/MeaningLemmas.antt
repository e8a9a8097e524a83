-- What a reference means, by what stands in it.
use Rattle.std.proofs.Common.{◌≡◌, ℕ, suc, ◌+◌, ◌*◌, ◌^◌, Bool, true, false, not, nat_eq, nat_lt, List, [], ◌∷◌, ◌++◌, length, take, drop, Option, Some, refl, sym, ap, subst, ◌∙◌, arith}
use Rattle.std.specs.Prelude.{if◌then◌else◌, ◌==◌, codes}
use Rattle.std.specs.List.{list_all, prefix_len, starts_with}
use Rattle.std.specs.Str.{bytes_eq}
use Rattle.std.proofs.lemmas.Bool.Decides.{nat_tests}
use Rattle.std.proofs.lemmas.List.{take_all}
use Rattle.std.proofs.lemmas.Slice.Eq.{bytes_eq-Decides}
use Rattle.std.proofs.Math.Nat.{add-mul, mul_assoc, mul_comm, pow-succ', pow-zero}
use Rattle.junit_parts.specs.Bytes.{begins_name, continues_name, is_name, run_len}
use Rattle.junit_parts.specs.Grammar.{IsName, IsNamed, IsNumber, Means, worth}
use Rattle.junit_parts.specs.Grammar.IsNamed.{lt, gt, amp, quot, apos}
use Rattle.junit_parts.specs.Grammar.Means.{named, decimal, hexadecimal, foreign}
use Rattle.junit_parts.specs.References.{all_digits, character, digit_value, is_scalar, meaning_of, number_from, numbered, other_meaning}
use Rattle.junit_parts.specs.declared.references.Meaning.{Meaning}
use Rattle.junit_parts.specs.declared.references.Meaning.TheVariants.{Character, Foreign}
use Rattle.junit_parts.proofs.GrammarLemmas.{if_some, same_some}
use Rattle.junit_parts.proofs.MarkLemmas.{starts}
use Rattle.junit_parts.proofs.RunLemmas.{and_both, by_bool, if_false, if_true, met_len, taken_pass, twice_not}

-- numbers

regrouped : (base so_far d p : ℕ) → (base * so_far + d) * p ≡ so_far * (base * p) + d * p
regrouped base so_far d p = add-mul (base * so_far) d p ∙ ap (λ x. x + d * p) (ap (λ x. x * p) (mul_comm base so_far) ∙ mul_assoc so_far base p)

number_says : (base so_far : ℕ) (digits : List ℕ) → number_from base so_far digits ≡ so_far * base ^ length digits + worth base digits
unfolding number_from
number_says base so_far [] = let one : base ^ 0 ≡ 1 = pow-zero base in rw one (omega arith)
number_says base so_far (d ∷ digits) =
    let p = base ^ length digits in
    let more : base ^ suc (length digits) ≡ base * p = pow-succ' base (length digits) in
    let here : (base * so_far + digit_value d) * p ≡ so_far * (base * p) + digit_value d * p = regrouped base so_far (digit_value d) p in
    number_says base (base * so_far + digit_value d) digits
    ∙ ap (λ x. x + worth base digits) here
    ∙ rw more (omega arith)

from_zero : (base : ℕ) (digits : List ℕ) → number_from base 0 digits ≡ worth base digits
from_zero base digits = number_says base 0 digits ∙ omega arith

numbered_read : (base : ℕ) (digits : List ℕ) (m : Meaning) → numbered base digits ≡ Some m → (n : ℕ) × IsNumber base digits n × (m ≡ Character n)
numbered_read base [] m e = absurd cc
numbered_read base (d ∷ digits) m e =
    let n = number_from base 0 (d ∷ digits) in
    let one = if_some (all_digits base (d ∷ digits)) (character n) m e in
    let two = if_some (is_scalar n) (Some (Character n)) m one.1 in
    (n, record { some = omega arith; digital = one.0; says = from_zero base (d ∷ digits); scalar = two.0 }, sym (same_some (Character n) m two.1))

numbered_met : (base : ℕ) (digits : List ℕ) (n : ℕ) → IsNumber base digits n → numbered base digits ≡ Some (Character n)
numbered_met base [] n is = absurd (let some = is.some in omega (arith, some))
numbered_met base (d ∷ digits) n is =
    let same : number_from base 0 (d ∷ digits) ≡ n = from_zero base (d ∷ digits) ∙ sym is.says in
    if_true (all_digits base (d ∷ digits)) _ _ is.digital
    ∙ ap character same ∙ if_true (is_scalar n) _ _ is.scalar

-- names

all_taken : (p : ℕ → Bool) (xs : List ℕ) → (prefix_len p xs == length xs) ≡ true → take (prefix_len p xs) xs ≡ xs
all_taken p xs e = let same : prefix_len p xs ≡ length xs = grind (arith, nat_tests, e) in take_all (prefix_len p xs) xs (omega (arith, same))

is_name_read : (body : List ℕ) → is_name body ≡ true → IsName body
is_name_read body e =
    let both = and_both (begins_name body) (run_len continues_name body == length body) e in
    let q : ℕ → Bool = λ x. not (not (continues_name x)) in
    let P : List ℕ → Type 0 = λ x. list_all continues_name x ≡ true in
    record { begins = both.0; goes_on = subst P (all_taken q body both.1) (taken_pass continues_name q (λ x. twice_not (continues_name x)) body) }

no_rest : (xs : List ℕ) → xs ++ [] ≡ xs
no_rest [] = refl
no_rest (x ∷ xs) = ap (λ (ys : List ℕ). x ∷ ys) (no_rest xs)

is_name_met : (body : List ℕ) → IsName body → is_name body ≡ true
is_name_met body is =
    let q : ℕ → Bool = λ x. not (not (continues_name x)) in
    let len : run_len continues_name (body ++ []) ≡ length body = met_len continues_name q (λ x. twice_not (continues_name x)) body [] is.goes_on refl in
    let here : run_len continues_name body ≡ length body = ap (run_len continues_name) (sym (no_rest body)) ∙ len in
    let same : (run_len continues_name body == length body) ≡ true = grind (arith, nat_tests, here) in
    let begins = is.begins in
    rw (begins, same) refl

-- meanings

equal : (xs ys : List ℕ) → bytes_eq xs ys ≡ true → xs ≡ ys
equal xs ys e = (bytes_eq-Decides xs ys).0 e

unequal : (xs ys : List ℕ) → bytes_eq xs ys ≡ false → xs ≡ ys → ⊥
unequal xs ys e is = let both : true ≡ false = sym ((bytes_eq-Decides xs ys).1 is) ∙ e in absurd cc

-- in a choice the first, or not the first and the other
choose : {P : Type 0} {m : Meaning} (b : Bool) (o p : Option Meaning) → (if b then o else p) ≡ Some m → (b ≡ true → o ≡ Some m → P) → (b ≡ false → p ≡ Some m → P) → P
choose true o p e one two = one refl e
choose false o p e one two = two refl e

is_none_named : (body : List ℕ) → bytes_eq body (codes "lt") ≡ false → bytes_eq body (codes "gt") ≡ false → bytes_eq body (codes "amp") ≡ false → bytes_eq body (codes "quot") ≡ false → bytes_eq body (codes "apos") ≡ false
    → (n : ℕ) → ¬ IsNamed body n
is_none_named body a b c d e n (lt is same) = unequal body (codes "lt") a is
is_none_named body a b c d e n (gt is same) = unequal body (codes "gt") b is
is_none_named body a b c d e n (amp is same) = unequal body (codes "amp") c is
is_none_named body a b c d e n (quot is same) = unequal body (codes "quot") d is
is_none_named body a b c d e n (apos is same) = unequal body (codes "apos") e is

other_read : (body : List ℕ) (m : Meaning) → ((n : ℕ) → ¬ IsNamed body n) → other_meaning body ≡ Some m → Means body m
other_read body m none e =
    choose (starts_with nat_eq body (codes "#x")) _ _ e
    (λ is found. let number = numbered_read 16 (drop 2 body) m found in hexadecimal number.0 (drop 2 body) (starts body (codes "#x") is) number.1 number.2)
    (λ not_x other.
    choose (starts_with nat_eq body (codes "#")) _ _ other
    (λ is found. let number = numbered_read 10 (drop 1 body) m found in decimal number.0 (drop 1 body) (starts body (codes "#") is) number.1 number.2)
    (λ no_number last.
    let found = if_some (is_name body) (Some Foreign) m last in
    foreign (is_name_read body found.0) none (sym (same_some Foreign m found.1))))

by_name : (body : List ℕ) (m : Meaning) (n : ℕ) → IsNamed body n → Some (Character n) ≡ Some m → Means body m
by_name body m n is e = named n is (sym (same_some (Character n) m e))

pub meaning_read : (body : List ℕ) (m : Meaning) → meaning_of body ≡ Some m → Means body m
unfolding meaning_of
meaning_read body m e =
    choose (bytes_eq body (codes "lt")) _ _ e (λ is found. by_name body m 60 (lt (equal body (codes "lt") is) refl) found)
    (λ a e. choose (bytes_eq body (codes "gt")) _ _ e (λ is found. by_name body m 62 (gt (equal body (codes "gt") is) refl) found)
    (λ b e. choose (bytes_eq body (codes "amp")) _ _ e (λ is found. by_name body m 38 (amp (equal body (codes "amp") is) refl) found)
    (λ c e. choose (bytes_eq body (codes "quot")) _ _ e (λ is found. by_name body m 34 (quot (equal body (codes "quot") is) refl) found)
    (λ d e. choose (bytes_eq body (codes "apos")) _ _ e (λ is found. by_name body m 39 (apos (equal body (codes "apos") is) refl) found)
    (λ f e. other_read body m (is_none_named body a b c d f) e)))))

-- the other way round

named_met : (body : List ℕ) (n : ℕ) → IsNamed body n → meaning_of body ≡ Some (Character n)
unfolding meaning_of
named_met body n (lt is same) = rw (is, same) refl
named_met body n (gt is same) = rw (is, same) refl
named_met body n (amp is same) = rw (is, same) refl
named_met body n (quot is same) = rw (is, same) refl
named_met body n (apos is same) = rw (is, same) refl

-- a number is none of the five names
number_met : (rest : List ℕ) → meaning_of (35 ∷ rest) ≡ other_meaning (35 ∷ rest)
unfolding meaning_of
number_met rest = refl

no_x : (d : ℕ) → nat_lt (digit_value d) 10 ≡ true → (120 == d) ≡ false
no_x d is = grind (arith, nat_tests, is)

decimal_met : (n : ℕ) (digits : List ℕ) → IsNumber 10 digits n → other_meaning (35 ∷ digits) ≡ Some (Character n)
decimal_met n [] is = absurd (let some = is.some in omega (arith, some))
decimal_met n (d ∷ digits) is =
    let first = (and_both (nat_lt (digit_value d) 10) (list_all (λ b. nat_lt (digit_value b) 10) digits) is.digital).0 in
    let other : starts_with nat_eq (35 ∷ d ∷ digits) (codes "#x") ≡ false = let no = no_x d first in rw no refl in
    if_false (starts_with nat_eq (35 ∷ d ∷ digits) (codes "#x")) _ _ other ∙ numbered_met 10 (d ∷ digits) n is

not_equal : (xs ys : List ℕ) → (xs ≡ ys → ⊥) → bytes_eq xs ys ≡ false
not_equal xs ys other = by_bool (bytes_eq xs ys) (λ is. absurd (other (equal xs ys is))) (λ found. found)

no_hash : (body : List ℕ) → IsName body → (starts_with nat_eq body (codes "#x") ≡ false) × (starts_with nat_eq body (codes "#") ≡ false)
no_hash [] is = absurd (let no : false ≡ true = is.begins in cc)
no_hash (b ∷ bs) is =
    let other : (35 == b) ≡ false = let begins : begins_name (b ∷ bs) ≡ true = is.begins in grind (arith, nat_tests, begins) in
    (rw other refl, rw other refl)

foreign_met : (body : List ℕ) → IsName body → ((n : ℕ) → ¬ IsNamed body n) → meaning_of body ≡ Some Foreign
unfolding meaning_of
foreign_met body is none =
    let hash = no_hash body is in
    if_false (bytes_eq body (codes "lt")) _ _ (not_equal body (codes "lt") (λ e. none 60 (lt e refl)))
    ∙ if_false (bytes_eq body (codes "gt")) _ _ (not_equal body (codes "gt") (λ e. none 62 (gt e refl)))
    ∙ if_false (bytes_eq body (codes "amp")) _ _ (not_equal body (codes "amp") (λ e. none 38 (amp e refl)))
    ∙ if_false (bytes_eq body (codes "quot")) _ _ (not_equal body (codes "quot") (λ e. none 34 (quot e refl)))
    ∙ if_false (bytes_eq body (codes "apos")) _ _ (not_equal body (codes "apos") (λ e. none 39 (apos e refl)))
    ∙ if_false (starts_with nat_eq body (codes "#x")) _ _ hash.0
    ∙ if_false (starts_with nat_eq body (codes "#")) _ _ hash.1
    ∙ if_true (is_name body) _ _ (is_name_met body is)

pub meaning_met : (body : List ℕ) (m : Meaning) → Means body m → meaning_of body ≡ Some m
meaning_met body m (named n is same) = named_met body n is ∙ ap Some (sym same)
meaning_met body m (decimal n digits is number same) = ap meaning_of is ∙ number_met digits ∙ decimal_met n digits number ∙ ap Some (sym same)
meaning_met body m (hexadecimal n digits is number same) = ap meaning_of is ∙ number_met (120 ∷ digits) ∙ numbered_met 16 digits n number ∙ ap Some (sym same)
meaning_met body m (foreign is none same) = foreign_met body is none ∙ ap Some (sym same)
