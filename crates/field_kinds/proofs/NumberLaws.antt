-- Whole numbers: digit by digit, up to a bound, and read again.
use Rattle.std.proofs.Common.{◌≡◌, ℕ, zero, suc, ◌+◌, ◌*◌, ◌^◌, ◌<◌, ◌≤◌, ◌==◌, ◌&&◌, Bool, true, false, nat_lt, min, if◌then◌else◌, List, [], ◌∷◌, length, get_or, Some, None, Ok, Err, refl, ap, subst, ◌∙◌, arith}
use Rattle.std.specs.List.{list_all}
use Rattle.std.specs.Prelude.{decimal}
use Rattle.std.specs.Char.{is_ascii_digit, digit_value}
use Rattle.std.specs.Str.Parse.{AllDigits, digits_value, digits_value_after}
use Rattle.std.proofs.lemmas.Str.{digit_value_digit}
use Rattle.std.proofs.lemmas.Str.Parse.{digit_from_value, numerals_by_value, tells_digits}
use Rattle.std.proofs.lemmas.Fmt.{decimal_digit, decimal_nonempty, digits_decimal, first_decimal, digits_value-decimal}
use Rattle.serde_json.specs.Data.{unsigned, number, string}
use Rattle.json_fields.specs.Faults.{here}
use Rattle.json_fields.specs.Kinds.{never_empty}
use Rattle.json_fields.specs.Writing.{IsWritten}
use Rattle.json_fields.specs.declared.faults.FaultKind.{FaultKind}
use Rattle.field_kinds.specs.Numbers.{Said, no_number, no_whole, below_zero, says, said, beyond, is_decimal, a_whole, IsSaid}
use Rattle.field_kinds.specs.Readings.{answer}
use Rattle.json_fields.specs.declared.faults.FaultKind.TheVariants.{BadValue}
use Rattle.json_fields.specs.declared.whys.Why.TheVariants.{OutOfRange}
use Rattle.std.proofs.lemmas.Bool.{ltb-true, ltb-false, lt-ltb}

within-Ok : (most m n : ℕ) (b : Bool) → nat_lt most m ≡ b → (if b then Err (BadValue OutOfRange) else Ok m) ≡ Ok n
    → ((if b then Some (here (BadValue OutOfRange)) else None) ≡ None) × (says m ≡ says n) × (n ≤ most)
within-Ok most m n true t e = absurd cc
within-Ok most m n false t e =
    let same : m ≡ n = cc in
    let few : m ≤ most = ltb-false most m t in
    (refl, ap says same, subst (λ (x : ℕ). x ≤ most) same few)

within-Err : (m : ℕ) (k : FaultKind) (b : Bool) → (if b then Err (BadValue OutOfRange) else Ok m) ≡ Err k
    → (if b then Some (here (BadValue OutOfRange)) else None) ≡ Some (here k)
within-Err m k true e = cc
within-Err m k false e = absurd cc

pub answer-Ok : (most : ℕ) (s : Said) (n : ℕ) → answer most s ≡ Ok n → (beyond most s ≡ None) × (s ≡ says n) × (n ≤ most)
answer-Ok most no_number n e = absurd cc
answer-Ok most no_whole n e = absurd cc
answer-Ok most below_zero n e = absurd cc
answer-Ok most (says m) n e = within-Ok most m n (nat_lt most m) refl e

pub answer-Err : (most : ℕ) (s : Said) (k : FaultKind) → answer most s ≡ Err k → beyond most s ≡ Some (here k)
answer-Err most no_number k e = cc
answer-Err most no_whole k e = cc
answer-Err most below_zero k e = cc
answer-Err most (says m) k e = within-Err m k (nat_lt most m) e

-- the digits behind a number make it no smaller
after-le : (n : ℕ) (ds : List ℕ) → n ≤ digits_value_after 10 n ds
after-le n [] = omega arith
after-le n (d ∷ ds) = let more = after-le (n * 10 + digit_value d) ds in omega (arith, more)

-- a number that is cut to a bound leads to the same number, cut to it
after-min : (m top : ℕ) (ds : List ℕ) (b : Bool) → nat_lt top m ≡ b → min (digits_value_after 10 (min m top) ds) top ≡ min (digits_value_after 10 m ds) top
after-min m top ds true t =
    let less : top < m = ltb-true top m t in
    let cut : min m top ≡ top = omega arith in
    let one = after-le top ds in
    let two = after-le m ds in
    rw cut (omega (arith, one, two, less))
after-min m top ds false t =
    let same : min m top ≡ m = let most : m ≤ top = ltb-false top m t in omega arith in
    rw same refl

pub digits_more : (n top d : ℕ) (ds : List ℕ)
    → min (digits_value_after 10 (min (n * 10 + digit_value d) top) ds) top ≡ min (digits_value_after 10 n (d ∷ ds)) top
digits_more n top d ds = after-min (n * 10 + digit_value d) top ds _ refl

pub digit_of : (d : ℕ) → is_ascii_digit d ≡ true → (48 ≤ d) × (d ≤ 57) × (digit_value d + 48 ≡ d)
digit_of d is =
    let range : (48 ≤ d) × (d ≤ 57) = grind arith in
    (range.0, range.1, digit_value_digit d range)

-- cut to the number behind the bound, a number is taken or not as it was
answer-cut : (most n : ℕ) (b : Bool) → nat_lt most n ≡ b → answer most (says (min n (most + 1))) ≡ (if b then Err (BadValue OutOfRange) else Ok n)
answer-cut most n true t =
    let less : most < n = ltb-true most n t in
    let cut : min n (most + 1) ≡ most + 1 = omega arith in
    let over : nat_lt most (most + 1) ≡ true = lt-ltb most (most + 1) (omega arith) in
    rw (cut, over) refl
answer-cut most n false t =
    let few : n ≤ most = ltb-false most n t in
    let same : min n (most + 1) ≡ n = omega arith in
    rw (same, t) refl

pub answer-min : (most n : ℕ) → answer most (says (min n (most + 1))) ≡ answer most (says n)
answer-min most n = answer-cut most n _ refl

ltb-not : (most n : ℕ) → n ≤ most → nat_lt most n ≡ false
ltb-not most n few = grind arith

all_digits : (ds : List ℕ) → AllDigits 10 ds → list_all is_ascii_digit ds ≡ true
all_digits [] all = refl
all_digits (d ∷ ds) all =
    let range = digit_from_value d all.0 in
    let this : is_ascii_digit d ≡ true = grind arith in
    rw (this, all_digits ds all.1) refl

decimal_from : (ds : List ℕ) → list_all is_ascii_digit ds ≡ true → 0 < length ds → (get_or ds 0 0 ≡ 48 → length ds ≡ 1) → is_decimal ds ≡ true
decimal_from [] all some lead = absurd (omega arith)
decimal_from (b ∷ []) all some lead = rw all (grind arith)
decimal_from (b ∷ c ∷ bs) all some lead =
    let no : b ≡ 48 → ⊥ = λ z. omega (arith, lead z) in
    let not_zero : (b == 48) ≡ false = grind arith in
    rw (all, not_zero) refl

first_zero : (n : ℕ) → n < 2 ^ 64 → get_or (decimal n) 0 0 ≡ 48 → length (decimal n) ≡ 1
first_zero zero small z = ap length (decimal_digit 0 (omega arith))
first_zero (suc n) small z = absurd (let above = first_decimal (suc n) (omega arith) small in omega (arith, above, z))

-- what is written is read again
pub decimal_is_decimal : (n : ℕ) → n < 2 ^ 64 → is_decimal (decimal n) ≡ true
decimal_is_decimal n small =
    decimal_from (decimal n) (all_digits (decimal n) (digits_decimal (numerals_by_value _ tells_digits) n small)) (decimal_nonempty n small) (first_zero n small)

pub page_written : (most n : ℕ) → n ≤ most → IsWritten (a_whole most) IsSaid never_empty (λ _. false) n (number (unsigned n))
page_written most n few = record {
  is_set = refl;
  no_fault = let under : nat_lt most n ≡ false = ltb-not most n few in rw under refl;
  meant = refl;
  emptiness = refl;
}

pub bytes_written : (most n : ℕ) → n ≤ most → n < 2 ^ 64 → IsWritten (a_whole most) IsSaid never_empty (λ _. false) n (string (decimal n))
bytes_written most n few small =
    let is = decimal_is_decimal n small in
    let value : digits_value 10 (decimal n) ≡ n = digits_value-decimal (numerals_by_value _ tells_digits) n small in
    let said_is : said (string (decimal n)) ≡ says n = rw (is, value) refl in
    let under : nat_lt most n ≡ false = ltb-not most n few in
    record {
      is_set = refl;
      no_fault = ap (beyond most) said_is ∙ rw under refl;
      meant = said_is;
      emptiness = refl;
    }

digits_and : (a b : Bool) → (a && b) ≡ true → b ≡ true
digits_and true b e = e
digits_and false b e = absurd cc

pub rest_digits : (d : ℕ) (ds : List ℕ) → list_all is_ascii_digit (d ∷ ds) ≡ true → list_all is_ascii_digit ds ≡ true
rest_digits d ds all = digits_and (is_ascii_digit d) (list_all is_ascii_digit ds) all
