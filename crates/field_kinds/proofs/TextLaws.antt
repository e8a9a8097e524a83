-- The texts in a text of JSON are UTF-8 where it is.
use Rattle.std.proofs.Common.{◌≡◌, ℕ, zero, suc, ◌+◌, ◌*◌, ◌<◌, ◌≤◌, Bool, true, false, cond, ◌&&◌, ◌==◌, nat_lt, List, [], ◌∷◌, ◌++◌, length, get_or, Option, Some, None, option_and_then, inl, inr, refl, sym, ◌∙◌, subst, arith, append-nil, length-append, IsUtf8, ltb-true}
use Rattle.std.specs.Char.{encode_utf8, is_digit, digit_value, IsScalar}
use Rattle.std.proofs.lemmas.Bool.{and_parts, cases_lt, ne_eqb, le-ltb}
use Rattle.std.proofs.lemmas.Bool.Decides.{nat_tests}
use Rattle.std.proofs.lemmas.Option.{same_Some}
use Rattle.std.proofs.lemmas.Str.{IsUtf8-append, IsUtf8-nil, IsUtf8-encode, IsUtf8-drop, IsCharBoundary-after_ascii, encode_ascii, inside_one}
use lib.Utf8.{scalar, scalars, encode, encodes, low_scalar}
use Rattle.json.specs.Text.{code_unit, short_escape, is_high_surrogate, is_low_surrogate, surrogate_pair, plain, after_backslash, after_u, after_high, prepend, content}

pub ascii_then : (x : ℕ) (xs : List ℕ) → x < 128 → IsUtf8 xs → IsUtf8 (x ∷ xs)
ascii_then x xs small u = IsUtf8-append (x ∷ []) xs (subst IsUtf8 (encode_ascii x small) (IsUtf8-encode x (low_scalar x (omega arith)))) u

behind_ascii : (x : ℕ) (xs : List ℕ) → x < 128 → IsUtf8 (x ∷ xs) → IsUtf8 xs
behind_ascii x xs small u = IsUtf8-drop (x ∷ xs) 1 u (IsCharBoundary-after_ascii (x ∷ xs) 0 u (omega arith) small)

-- ---- the content of a string

prepended : (bs : List ℕ) (o : Option (List ℕ)) (s : List ℕ) → IsUtf8 bs → ((t : List ℕ) → o ≡ Some t → IsUtf8 t) → prepend bs o ≡ Some s → IsUtf8 s
prepended bs None s u h e = absurd cc
prepended bs (Some t) s u h e = subst IsUtf8 (same_Some (bs ++ t) s e) (IsUtf8-append bs t u (h t refl))

prepend-more : (a : ℕ) (b : List ℕ) (r : Option (List ℕ)) → prepend (a ∷ []) (prepend b r) ≡ prepend (a ∷ b) r
prepend-more a b None = refl
prepend-more a b (Some s) = refl

prepend-nil : (r : Option (List ℕ)) → prepend [] r ≡ r
prepend-nil None = refl
prepend-nil (Some s) = refl

-- bytes of no ASCII stand for themselves
past_high : (bs rest : List ℕ) → ((k : ℕ) → k < length bs → 128 ≤ get_or bs k 0) → content plain (bs ++ rest) ≡ prepend bs (content plain rest)
unfolding content
past_high [] rest h = sym (prepend-nil _)
past_high (b ∷ bs) rest h =
    let high : 128 ≤ b = h 0 (omega arith) in
    rw (ne_eqb b 34 (λ e. omega arith), ne_eqb b 92 (λ e. omega arith), le-ltb b 32 (omega arith), past_high bs rest (λ k below. h (suc k) (omega arith)))
    (prepend-more b bs (content plain rest))

high_bytes : (c : ℕ) → 128 ≤ c → (k : ℕ) → k < length (encode c) → 128 ≤ get_or (encode c) k 0
high_bytes c big k below = elim (cases_lt (get_or (encode c) k 0) 128) [
  | inl low ↦ absurd (omega (arith, inside_one c [] (encode c) k (sym (append-nil _)) below low))
  | inr h ↦ h
]

hex_small : (x : ℕ) → is_digit x 16 ≡ true → x < 128
hex_small x e = grind (arith, nat_tests)

hex_few : (x : ℕ) → is_digit x 16 ≡ true → digit_value x < 16
hex_few x e = ltb-true (digit_value x) 16 e

pub record IsUnit (a b c d u : ℕ) : Type 0 where
  pub first : a < 128
  pub second : b < 128
  pub third : c < 128
  pub last : d < 128
  pub few : u < 65536

found_unit : (t : Bool) (v u : ℕ) → cond t (Some v) None ≡ Some u → (t ≡ true) × (v ≡ u)
found_unit true v u e = (refl, same_Some v u e)
found_unit false v u e = absurd cc

four : (p q r s : Bool) → (p && q && r && s) ≡ true → (p ≡ true) × (q ≡ true) × (r ≡ true) × (s ≡ true)
four true true true true e = (refl, refl, refl, refl)
four true true true false e = absurd cc
four true true false s e = absurd cc
four true false r s e = absurd cc
four false q r s e = absurd cc

unit_small : (a b c d u : ℕ) → code_unit a b c d ≡ Some u → IsUnit a b c d u
unfolding code_unit
unit_small a b c d u e =
    let found = found_unit (is_digit a 16 && is_digit b 16 && is_digit c 16 && is_digit d 16) (digit_value a * 4096 + digit_value b * 256 + digit_value c * 16 + digit_value d) u e in
    let hex = four (is_digit a 16) (is_digit b 16) (is_digit c 16) (is_digit d 16) found.0 in
    let is : digit_value a * 4096 + digit_value b * 256 + digit_value c * 16 + digit_value d ≡ u = found.1 in
    let one : digit_value a < 16 = hex_few a hex.0 in
    let two : digit_value b < 16 = hex_few b hex.1 in
    let three : digit_value c < 16 = hex_few c hex.2 in
    let last : digit_value d < 16 = hex_few d hex.3 in
    record {
      first = hex_small a hex.0;
      second = hex_small b hex.1;
      third = hex_small c hex.2;
      last = hex_small d hex.3;
      few = omega (arith, is, one, two, three, last);
    }

-- a short escape is of an ASCII byte, and gives one
short_of : (a b c d e f : Bool) (x r : ℕ) → x < 128
    → cond a (Some x) (cond b (Some 8) (cond c (Some 12) (cond d (Some 10) (cond e (Some 13) (cond f (Some 9) None))))) ≡ Some r → r < 128
short_of true b c d e f x r small is = subst (λ (n : ℕ). n < 128) (same_Some x r is) small
short_of false true c d e f x r small is = subst (λ (n : ℕ). n < 128) (same_Some 8 r is) (omega arith)
short_of false false true d e f x r small is = subst (λ (n : ℕ). n < 128) (same_Some 12 r is) (omega arith)
short_of false false false true e f x r small is = subst (λ (n : ℕ). n < 128) (same_Some 10 r is) (omega arith)
short_of false false false false true f x r small is = subst (λ (n : ℕ). n < 128) (same_Some 13 r is) (omega arith)
short_of false false false false false true x r small is = subst (λ (n : ℕ). n < 128) (same_Some 9 r is) (omega arith)
short_of false false false false false false x r small is = absurd cc

short_none : (x : ℕ) → 128 ≤ x → short_escape x ≡ None
unfolding short_escape
short_none x big =
    rw (
      ne_eqb x 34 (λ e. omega arith),
      ne_eqb x 92 (λ e. omega arith),
      ne_eqb x 47 (λ e. omega arith),
      ne_eqb x 98 (λ e. omega arith),
      ne_eqb x 102 (λ e. omega arith),
      ne_eqb x 110 (λ e. omega arith),
      ne_eqb x 114 (λ e. omega arith),
      ne_eqb x 116 (λ e. omega arith),
    ) refl

short_small : (x r : ℕ) → short_escape x ≡ Some r → (x < 128) × (r < 128)
unfolding short_escape
short_small x r is = elim (cases_lt x 128) [
  | inl small ↦ (small, short_of _ (x == 98) (x == 102) (x == 110) (x == 114) (x == 116) x r small is)
  | inr big ↦ let none = short_none x big in absurd cc
]

low_unit : (u : ℕ) → is_low_surrogate u ≡ true → (0xdc00 ≤ u) × (u < 0xe000)
low_unit u e = (grind (arith, nat_tests), grind (arith, nat_tests))

high_unit : (u : ℕ) → is_high_surrogate u ≡ true → (0xd800 ≤ u) × (u < 0xdc00)
high_unit u e = (grind (arith, nat_tests), grind (arith, nat_tests))

unit_scalar : (u : ℕ) → u < 65536 → is_high_surrogate u ≡ false → is_low_surrogate u ≡ false → IsScalar u
unit_scalar u few h l = grind (arith, nat_tests)

pair_scalar : (h l : ℕ) → (0xd800 ≤ h) × (h < 0xdc00) → (0xdc00 ≤ l) × (l < 0xe000) → IsScalar (surrogate_pair h l)
pair_scalar h l high low = grind (arith, nat_tests)

-- A string's content is UTF-8 where it stands in UTF-8. The number is one of bytes that may be left.
abbrev Contents : ℕ → Type 0
Contents n = (xs s : List ℕ) → length xs ≤ n → IsUtf8 xs → content plain xs ≡ Some s → IsUtf8 s

module _ (n : ℕ) (rest : Contents n) where
  after_low : (h : ℕ) (o : Option ℕ) (xs s : List ℕ) → ((u : ℕ) → o ≡ Some u → (length xs ≤ n) × IsUtf8 xs) → is_high_surrogate h ≡ true
      → option_and_then (λ l. cond (is_low_surrogate l) (prepend (encode_utf8 (surrogate_pair h l)) (content plain xs)) None) o ≡ Some s → IsUtf8 s
  after_low h None xs s more high e = absurd cc
  after_low h (Some l) xs s more high e = by_low (is_low_surrogate l) refl e
    where
      by_low : (b : Bool) → is_low_surrogate l ≡ b → cond b (prepend (encode_utf8 (surrogate_pair h l)) (content plain xs)) None ≡ Some s → IsUtf8 s
      by_low true is f =
          let left = more l refl in
          prepended (encode_utf8 (surrogate_pair h l)) (content plain xs) s (IsUtf8-encode _ (pair_scalar h l (high_unit h high) (low_unit l is)))
          (λ t g. rest xs t left.0 left.1 g) f
      by_low false is f = absurd cc

  second_half : (h : ℕ) (xs s : List ℕ) → length xs ≤ n → IsUtf8 xs → is_high_surrogate h ≡ true → content (after_high h) xs ≡ Some s → IsUtf8 s
  unfolding content
  second_half h [] s few u high e = absurd cc
  second_half h (p ∷ []) s few u high e = absurd cc
  second_half h (p ∷ q ∷ []) s few u high e = absurd cc
  second_half h (p ∷ q ∷ a ∷ []) s few u high e = absurd cc
  second_half h (p ∷ q ∷ a ∷ b ∷ []) s few u high e = absurd cc
  second_half h (p ∷ q ∷ a ∷ b ∷ c ∷ []) s few u high e = absurd cc
  second_half h (p ∷ q ∷ a ∷ b ∷ c ∷ d ∷ xs) s few u high e = by_escape (p == 92) (q == 117) refl refl e
    where
      by_escape : (t v : Bool) → (p == 92) ≡ t → (q == 117) ≡ v
          → cond (t && v) (option_and_then (λ l. cond (is_low_surrogate l) (prepend (encode_utf8 (surrogate_pair h l)) (content plain xs)) None) (code_unit a b c d)) None ≡ Some s → IsUtf8 s
      by_escape true true is also f =
          let back : p ≡ 92 = grind (arith, nat_tests) in
          let letter : q ≡ 117 = grind (arith, nat_tests) in
          let one : IsUtf8 (q ∷ a ∷ b ∷ c ∷ d ∷ xs) = behind_ascii p _ (omega arith) u in
          let two : IsUtf8 (a ∷ b ∷ c ∷ d ∷ xs) = behind_ascii q _ (omega arith) one in
          after_low h (code_unit a b c d) xs s
          (λ v g.
          let is = unit_small a b c d v g in
          (omega (arith, few), behind_ascii d _ is.last (behind_ascii c _ is.third (behind_ascii b _ is.second (behind_ascii a _ is.first two)))))
          high f
      by_escape true false is also f = absurd cc
      by_escape false v is also f = absurd cc

  unit_after : (o : Option ℕ) (xs s : List ℕ) → ((u : ℕ) → o ≡ Some u → (length xs ≤ n) × IsUtf8 xs × (u < 65536))
      → option_and_then (λ u. cond (is_high_surrogate u) (content (after_high u) xs) (cond (is_low_surrogate u) None (prepend (encode_utf8 u) (content plain xs)))) o ≡ Some s → IsUtf8 s
  unit_after None xs s more e = absurd cc
  unit_after (Some u) xs s more e = by_unit (is_high_surrogate u) (is_low_surrogate u) refl refl e
    where
      by_unit : (t v : Bool) → is_high_surrogate u ≡ t → is_low_surrogate u ≡ v
          → cond t (content (after_high u) xs) (cond v None (prepend (encode_utf8 u) (content plain xs))) ≡ Some s → IsUtf8 s
      by_unit true v is also f = let left = more u refl in second_half u xs s left.0 left.1 is f
      by_unit false true is also f = absurd cc
      by_unit false false is also f =
          let left = more u refl in
          prepended (encode_utf8 u) (content plain xs) s (IsUtf8-encode u (unit_scalar u left.2 is also)) (λ t g. rest xs t left.0 left.1 g) f

  hex_after : (xs s : List ℕ) → length xs ≤ n → IsUtf8 xs → content after_u xs ≡ Some s → IsUtf8 s
  unfolding content
  hex_after [] s few u e = absurd cc
  hex_after (a ∷ []) s few u e = absurd cc
  hex_after (a ∷ b ∷ []) s few u e = absurd cc
  hex_after (a ∷ b ∷ c ∷ []) s few u e = absurd cc
  hex_after (a ∷ b ∷ c ∷ d ∷ xs) s few u e =
      unit_after (code_unit a b c d) xs s
      (λ v g.
      let is = unit_small a b c d v g in
      (omega (arith, few), behind_ascii d _ is.last (behind_ascii c _ is.third (behind_ascii b _ is.second (behind_ascii a _ is.first u))), is.few))
      e

  short_after : (x : ℕ) (o : Option ℕ) (xs s : List ℕ) → length xs ≤ n → IsUtf8 (x ∷ xs) → ((c : ℕ) → o ≡ Some c → (x < 128) × (c < 128))
      → option_and_then (λ c. prepend (c ∷ []) (content plain xs)) o ≡ Some s → IsUtf8 s
  short_after x None xs s few u h e = absurd cc
  short_after x (Some c) xs s few u h e =
      let small = h c refl in
      prepended (c ∷ []) (content plain xs) s (ascii_then c [] small.1 IsUtf8-nil) (λ t g. rest xs t few (behind_ascii x xs small.0 u) g) e

  escape_after : (xs s : List ℕ) → length xs ≤ n → IsUtf8 xs → content after_backslash xs ≡ Some s → IsUtf8 s
  unfolding content
  escape_after [] s few u e = absurd cc
  escape_after (x ∷ xs) s few u e = by_letter (x == 117) refl e
    where
      by_letter : (t : Bool) → (x == 117) ≡ t → cond t (content after_u xs) (option_and_then (λ c. prepend (c ∷ []) (content plain xs)) (short_escape x)) ≡ Some s → IsUtf8 s
      by_letter true is f = let letter : x ≡ 117 = grind (arith, nat_tests) in hex_after xs s (omega (arith, few)) (behind_ascii x xs (omega arith) u) f
      by_letter false is f = short_after x (short_escape x) xs s (omega (arith, few)) u (λ c g. short_small x c g) f

  ascii_first : (a b c : Bool) (x : ℕ) (xs s : List ℕ) → length xs ≤ n → x < 128 → IsUtf8 xs
      → cond a (Some []) (cond b (content after_backslash xs) (cond c None (prepend (x ∷ []) (content plain xs)))) ≡ Some s → IsUtf8 s
  ascii_first true b c x xs s few small u e = subst IsUtf8 (same_Some [] s e) IsUtf8-nil
  ascii_first false true c x xs s few small u e = escape_after xs s few u e
  ascii_first false false true x xs s few small u e = absurd cc
  ascii_first false false false x xs s few small u e = prepended (x ∷ []) (content plain xs) s (ascii_then x [] small IsUtf8-nil) (λ t g. rest xs t few u g) e

  by_chars : (cs : List ℕ) (s : List ℕ) → scalars cs ≡ true → length (encodes cs) ≤ suc n → content plain (encodes cs) ≡ Some s → IsUtf8 s
  unfolding content
  by_chars [] s ok few e = absurd cc
  by_chars (c ∷ cs) s ok few e =
      let both = and_parts (scalar c) (scalars cs) ok in
      let u : IsUtf8 (encodes cs) = (cs, (both.1, refl)) in
      elim (cases_lt c 128) [
        | inl small ↦
            let f : content plain (c ∷ encodes cs) ≡ Some s = subst (λ (l : List ℕ). content plain (l ++ encodes cs) ≡ Some s) (encode_ascii c small) e in
            let less : length (c ∷ encodes cs) ≤ suc n = subst (λ (l : List ℕ). length (l ++ encodes cs) ≤ suc n) (encode_ascii c small) few in
            ascii_first (c == 34) (c == 92) (nat_lt c 32) c (encodes cs) s (omega (arith, less)) small u f
        | inr big ↦
            prepended (encode c) (content plain (encodes cs)) s (IsUtf8-encode c both.0)
            (λ t g. by_chars cs t both.1 (omega (arith, few, length-append (encode c) (encodes cs))) g)
            (sym (past_high (encode c) (encodes cs) (high_bytes c big)) ∙ e)
      ]

contents : (n : ℕ) → Contents n
unfolding content
contents zero [] s few u e = absurd cc
contents zero (x ∷ xs) s few u e = absurd (omega (arith, few))
contents (suc n) xs s few u e =
    by_chars n (contents n) u.0 s u.1.0 (subst (λ (l : List ℕ). length l ≤ suc n) (sym u.1.1) few) (subst (λ (l : List ℕ). content plain l ≡ Some s) (sym u.1.1) e)

pub content_utf8 : (xs s : List ℕ) → IsUtf8 xs → content plain xs ≡ Some s → IsUtf8 s
content_utf8 xs s u e = contents (length xs) xs s (omega arith) u e
