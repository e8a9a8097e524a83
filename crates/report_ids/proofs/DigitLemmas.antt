-- Hexadecimal digits, `-` and a number are the id of a result.
use Rattle.std.proofs.Common.{◌≡◌, ℕ, zero, suc, Bool, ◌+◌, ◌/◌, ◌%◌, ◌^◌, ◌<◌, true, List, [], ◌∷◌, ◌++◌, length, get_or, take, refl, ◌∙◌, arith, length-append, length-take}
use Rattle.std.specs.Prelude.{slice_index}
use Rattle.std.specs.Fmt.{decimal}
use Rattle.std.specs.List.{list_all}
use Rattle.hex.specs.Hex.{encode_lower, encode_with, lower_digits}
use Rattle.std.proofs.lemmas.Bool.{and_parts, and_from}
use Rattle.std.proofs.lemmas.Bool.Decides.{nat_tests}
use Rattle.std.proofs.lemmas.Fmt.{decimal_by_steps, length-decimal-le}
use Rattle.std.proofs.lemmas.List.Folds.{list_all-append}
use Rattle.name_parts.specs.Alphabets.{is_small, may_follow}
use Rattle.name_parts.specs.Parts.{has_alphabet}
use Rattle.name_parts.specs.declared.alphabets.Alphabet.TheVariants.{Outcome}
use Rattle.names_realms.specs.Names.{IsResultId}
use Rattle.report_ids.specs.Digests.{IsRequestName}

all_at : (p : ℕ → Bool) (xs : List ℕ) (k : ℕ) → list_all p xs ≡ true → k < length xs → p (get_or xs k 0) ≡ true
all_at p [] k all few = absurd (omega arith)
all_at p (x ∷ xs) zero all few = (and_parts (p x) (list_all p xs) all).0
all_at p (x ∷ xs) (suc k) all few = all_at p xs k (and_parts (p x) (list_all p xs) all).1 (omega arith)

digit_small : (d : ℕ) → d < 16 → is_small (slice_index lower_digits d) ≡ true
digit_small d few = all_at is_small lower_digits d refl few

-- the digits of bytes
pub hex_small : (bs : List ℕ) → ((k : ℕ) → get_or bs k 0 < 256) → list_all is_small (encode_lower bs) ≡ true
unfolding encode_with
hex_small [] bytes = refl
hex_small (b ∷ bs) bytes =
    let here : b < 256 = bytes 0 in
    and_from _ _ (digit_small (b / 16) (omega (arith, here)))
    (and_from _ _ (digit_small (b % 16) (omega arith)) (hex_small bs (λ k. bytes (suc k))))

decimal_small : (n : ℕ) → n < 2 ^ 64 → list_all is_small (decimal n) ≡ true
decimal_small = decimal_by_steps (λ n text. list_all is_small text ≡ true)
    (λ n few. and_from _ _ (let d = n in grind (arith, nat_tests)) refl)
    (λ n ds high before. list_all-append is_small ds ((48 + n % 10) ∷ []) ∙ and_from _ _ before (and_from _ _ (let d = n % 10 in grind (arith, nat_tests)) refl))

small_follows : (bs : List ℕ) → list_all is_small bs ≡ true → list_all (may_follow Outcome) bs ≡ true
small_follows [] all = refl
small_follows (b ∷ bs) all =
    let parts = and_parts (is_small b) (list_all is_small bs) all in
    let here : may_follow Outcome b ≡ true = rw parts.0 refl in
    and_from (may_follow Outcome b) (list_all (may_follow Outcome) bs) here (small_follows bs parts.1)

front_small : (n : ℕ) (bs : List ℕ) → list_all is_small bs ≡ true → list_all is_small (take n bs) ≡ true
front_small zero [] all = refl
front_small zero (b ∷ bs) all = refl
front_small (suc n) [] all = refl
front_small (suc n) (b ∷ bs) all =
    let parts = and_parts (is_small b) (list_all is_small bs) all in
    and_from (is_small b) (list_all is_small (take n bs)) parts.0 (front_small n bs parts.1)

follows_is_id : (text : List ℕ) → list_all (may_follow Outcome) text ≡ true → 0 < length text → has_alphabet Outcome text ≡ true
follows_is_id [] all some = absurd (omega arith)
follows_is_id (b ∷ bs) all some = all

-- some digits, `-` and a number
pub numbered_is_id : (digits : List ℕ) (n : ℕ) → list_all is_small digits ≡ true → length digits ≡ 64 → n < 2 ^ 64 → IsResultId (take 8 digits ++ 45 ∷ decimal n)
numbered_is_id digits n small whole fits =
    let text = take 8 digits ++ 45 ∷ decimal n in
    let number = small_follows (decimal n) (decimal_small n fits) in
    let front = small_follows (take 8 digits) (front_small 8 digits small) in
    let all : list_all (may_follow Outcome) text ≡ true = list_all-append (may_follow Outcome) (take 8 digits) (45 ∷ decimal n) ∙ and_from _ _ front number in
    let len = length-append (take 8 digits) (45 ∷ decimal n) in
    let short = length-decimal-le 20 n (omega arith) (omega (arith, fits)) fits in
    let eight = length-take 8 digits in
    record { letters = follows_is_id text all (omega (arith, len)); most = omega (arith, len, short, eight) }

-- and more digits, `-` and a number that isn't too great may be the id of a request
pub numbered_is_name : (digits : List ℕ) (n : ℕ) → list_all is_small digits ≡ true → length digits ≡ 64 → n < 10 ^ 11 → IsRequestName (take 24 digits ++ 45 ∷ decimal n)
numbered_is_name digits n small whole few =
    let fits : n < 2 ^ 64 = omega (arith, few) in
    let number = small_follows (decimal n) (decimal_small n fits) in
    let front = small_follows (take 24 digits) (front_small 24 digits small) in
    let len = length-append (take 24 digits) (45 ∷ decimal n) in
    let short = length-decimal-le 11 n (omega arith) few fits in
    let many = length-take 24 digits in
    record {
      letters = list_all-append (may_follow Outcome) (take 24 digits) (45 ∷ decimal n) ∙ and_from _ _ front number;
      some = omega (arith, len);
      most = omega (arith, len, short, many);
    }
