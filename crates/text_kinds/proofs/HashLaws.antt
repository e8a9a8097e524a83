-- A text has no fault as a hash exactly where it is one.
use Rattle.std.proofs.Common.{◌≡◌, ◌==◌, ℕ, ◌+◌, suc, not, cond, nat_lt, if◌then◌else◌, Bool, true, false, List, [], ◌∷◌, ◌++◌, length, take, drop, codes, Option, Some, None, option_map, refl, sym, ap, subst, ◌∙◌, arith, take-append-drop}
use Rattle.std.specs.List.{list_all, position, position_or_len}
use Rattle.std.specs.Option.{option_or}
use Rattle.std.proofs.lemmas.Bool.{and_from, and_parts, false≢true}
use Rattle.std.proofs.lemmas.Bool.Decides.{nat_tests}
use Rattle.json_fields.specs.NameParts.Parts.{literal_bad_place}
use Rattle.json_fields.proofs.NameParts.CutLemmas.{literal_bad_place-None, literal_bad_place-literal}
use Rattle.json_fields.specs.declared.whys.Why.TheVariants.{Empty, TooLong, BadByte}
use Rattle.text_kinds.specs.Hashes.{IsHash, is_lower_hex, digit_place, end_place, hash_why}
use Rattle.text_kinds.specs.Laws.{OnlyHashesAreRead}

-- none of three faults, and none of three places
pub no_fault : (b c : Bool) (n : ℕ) (o : Option ℕ) → (if b then Some Empty else (if c then Some (TooLong n) else option_map BadByte o)) ≡ None
    → (b ≡ false) × (c ≡ false) × (o ≡ None)
no_fault true c n o e = absurd cc
no_fault false true n o e = absurd cc
no_fault false false n None e = (refl, refl, refl)
no_fault false false n (Some at) e = absurd cc

no_place : (p q r : Option ℕ) → option_or p (option_or q r) ≡ None → (p ≡ None) × (q ≡ None) × (r ≡ None)
no_place None None None e = (refl, refl, refl)
no_place None None (Some at) e = absurd cc
no_place None (Some at) r e = absurd cc
no_place (Some at) q r e = absurd cc

unmoved : (o : Option ℕ) → option_map (λ n. n + 7) o ≡ None → o ≡ None
unmoved None e = refl
unmoved (Some n) e = absurd cc

pub untold : (t : Bool) (n : ℕ) → cond t (Some n) None ≡ None → t ≡ false
untold true n e = absurd cc
untold false n e = refl

-- each byte is good where no place of another is told
good_first : (t : Bool) (n m : ℕ) → nat_lt (cond (not (not t)) (1 + n) 0) (suc m) ≡ false → (t ≡ true) × (nat_lt n m ≡ false)
good_first true n m e = (refl, grind (arith, nat_tests))
good_first false n m e = absurd (grind (arith, nat_tests))

pub all_good : (good : ℕ → Bool) (bs : List ℕ) → nat_lt (position_or_len (λ b. not (good b)) bs) (length bs) ≡ false → list_all good bs ≡ true
all_good good [] e = refl
all_good good (b ∷ bs) e =
    let both = good_first (good b) (position_or_len (λ b. not (good b)) bs) (length bs) e in
    and_from (good b) (list_all good bs) both.0 (all_good good bs both.1)

first_good : (t : Bool) (n m : ℕ) → t ≡ true → nat_lt n m ≡ false → nat_lt (cond (not (not t)) (1 + n) 0) (suc m) ≡ false
first_good true n m e f = grind (arith, nat_tests)
first_good false n m e f = absurd (false≢true e)

pub good_all : (good : ℕ → Bool) (bs : List ℕ) → list_all good bs ≡ true → nat_lt (position_or_len (λ b. not (good b)) bs) (length bs) ≡ false
good_all good [] e = refl
good_all good (b ∷ bs) e =
    let both = and_parts (good b) (list_all good bs) e in
    first_good (good b) (position_or_len (λ b. not (good b)) bs) (length bs) both.0 (good_all good bs both.1)

-- a text behind the front
behind_front : (n : ℕ) → suc (suc (suc (suc (suc (suc (suc n)))))) ≡ 7 + n
behind_front n = omega arith

is_hash : (text : List ℕ) → hash_why text ≡ None → IsHash text
is_hash text e =
    let faults = no_fault (length text == 0) (nat_lt 71 (length text)) (length text) _ e in
    let places = no_place (literal_bad_place (codes "sha256:") (take 7 text)) (digit_place text) (end_place text) faults.2 in
    let front : take 7 text ≡ codes "sha256:" = literal_bad_place-None (codes "sha256:") (take 7 text) places.0 in
    let whole : text ≡ codes "sha256:" ++ drop 7 text =
    sym (take-append-drop 7 text) ∙ ap (λ (f : List ℕ). f ++ drop 7 text) front in
    let parts : length text ≡ 7 + length (drop 7 text) = ap length whole ∙ behind_front (length (drop 7 text)) in
    let long : nat_lt (length text) 71 ≡ false = untold (nat_lt (length text) 71) (length text) places.2 in
    record {
      digits = drop 7 text;
      whole = whole;
      hexadecimal = all_good is_lower_hex (drop 7 text) (untold _ _ (unmoved (position (λ b. not (is_lower_hex b)) (drop 7 text)) places.1));
      count = grind (arith, nat_tests, parts, long, faults.1);
    }

pub has_no_fault : (b c : Bool) (n : ℕ) (o : Option ℕ) → b ≡ false → c ≡ false → o ≡ None
    → (if b then Some Empty else (if c then Some (TooLong n) else option_map BadByte o)) ≡ None
has_no_fault b c n o eb ec eo = rw (eb, ec, eo) refl

right : (digits : List ℕ) → list_all is_lower_hex digits ≡ true → length digits ≡ 64 → hash_why (codes "sha256:" ++ digits) ≡ None
right digits are count =
    let text : List ℕ = codes "sha256:" ++ digits in
    let long : length text ≡ 7 + length digits = behind_front (length digits) in
    let place : nat_lt (position_or_len (λ b. not (is_lower_hex b)) digits) (length digits) ≡ false = good_all is_lower_hex digits are in
    has_no_fault (length text == 0) (nat_lt 71 (length text)) (length text) _
    (grind (arith, nat_tests, long, count)) (grind (arith, nat_tests, long, count))
    (rw (literal_bad_place-literal (codes "sha256:"), place)
    (let short : nat_lt (length text) 71 ≡ false = grind (arith, nat_tests, long, count) in rw short refl))

pub only_hashes_are_read : OnlyHashesAreRead
only_hashes_are_read text =
    (λ none. is_hash text none, λ is. subst (λ (s : List ℕ). hash_why s ≡ None) (sym is.whole) (right is.digits is.hexadecimal is.count))
