-- Digits, words, comments and dashes at the front of a text.
use Rattle.std.proofs.Common.{◌≡◌, ℕ, suc, ◌+◌, ◌≤◌, nat_eq, nat_lt, Bool, true, false, cond, List, [], ◌∷◌, ◌++◌, length, take, drop, replicate, codes, refl, sym, ap, ◌∙◌, subst, arith}
use Rattle.std.specs.Prelude.{◌==◌, ◌&&◌}
use Rattle.std.specs.List.{list_all, starts_with}
use Rattle.std.specs.Char.{is_ascii_digit}
use Rattle.std.proofs.lemmas.Bool.Decides.{Decides-eqb, nat_tests}
use Rattle.std.proofs.lemmas.Slice.Eq.{starts_is}
use Rattle.std.proofs.lemmas.List.{drop-drop, drop_at, take-append-drop, take_at}
use Rattle.std.proofs.lemmas.List.Folds.{length-prefix_len}
use Rattle.tap_reader.specs.LineForms.{digits, ends_plan, ends_word, is_number_len, number_from, spaces, undashed, unspaced}
use Rattle.tap_reader.specs.LineGrammar.{EndsWord, IsComment, IsDash, IsDashed, IsNumber, IsNumberWord, ends_space, ends_text, no_comment, some_comment, with_dash, without_dash}
use Rattle.tap_reader.proofs.TextLemmas.{NoSpace, both, both_true, head_is, spaces_split, unspaced_of}

pub starts : (text word : List ℕ) → (starts_with nat_eq text word ≡ true → text ≡ word ++ drop (length word) text) × ((rest : List ℕ) → text ≡ word ++ rest → starts_with nat_eq text word ≡ true)
starts text word = starts_is Decides-eqb text word (starts_with nat_eq text word) refl

-- digits

digits_step : (t : Bool) (b : ℕ) (bs : List ℕ) (n : ℕ) → is_ascii_digit b ≡ t → list_all is_ascii_digit (take n bs) ≡ true → list_all is_ascii_digit (take (cond t (1 + n) 0) (b ∷ bs)) ≡ true
digits_step true b bs n e h =
    let P : ℕ → Type 0 = λ k. list_all is_ascii_digit (take k (b ∷ bs)) ≡ true in
    subst P (let s : suc n ≡ 1 + n = omega arith in s) (both_true (is_ascii_digit b) (list_all is_ascii_digit (take n bs)) e h)
digits_step false b bs n e h = refl

digits_all : (text : List ℕ) → list_all is_ascii_digit (take (digits text) text) ≡ true
digits_all [] = refl
digits_all (b ∷ bs) = digits_step (is_ascii_digit b) b bs (digits bs) refl (digits_all bs)

pub digits_of : (ds tail : List ℕ) → list_all is_ascii_digit ds ≡ true → digits tail ≡ 0 → digits (ds ++ tail) ≡ length ds
digits_of [] tail e h = h
digits_of (d ∷ ds) tail e h =
    let p = both (is_ascii_digit d) (list_all is_ascii_digit ds) e in
    rw p.0 (omega (arith, digits_of ds tail p.1 h))

pub number_len : (n : ℕ) → is_number_len n ≡ true → (1 ≤ n) × (n ≤ 9)
number_len n e =
    let p = both (nat_lt 0 n) (nat_lt n 10) e in
    let some : 1 ≤ n = grind (arith, nat_tests, p.0) in
    let few : n ≤ 9 = grind (arith, nat_tests, p.1) in (some, few)

pub number_len_of : (n : ℕ) → 1 ≤ n → n ≤ 9 → is_number_len n ≡ true
number_len_of n some few = both_true (nat_lt 0 n) (nat_lt n 10) (grind (arith, nat_tests)) (grind (arith, nat_tests))

pub number_is : (text : List ℕ) → is_number_len (digits text) ≡ true → IsNumber (take (digits text) text) (number_from 0 (take (digits text) text))
number_is text e =
    let len : length (take (digits text) text) ≡ digits text = length-prefix_len is_ascii_digit text in
    let p = number_len (digits text) e in
    record {
      digits = digits_all text;
      some = omega (arith, len, p.0);
      few = omega (arith, len, p.1);
      spelled = refl;
    }

-- words

pub word_is : (text : List ℕ) → ends_word text ≡ true → EndsWord text (drop 1 text)
word_is [] e = ends_text refl refl
word_is (b ∷ bs) e = ends_space (ap (λ x. x ∷ bs) ((Decides-eqb b 32).0 e))

pub word_of : (text rest : List ℕ) → EndsWord text rest → (ends_word text ≡ true) × (drop 1 text ≡ rest)
word_of text rest (ends_text e r) = (ap ends_word e, ap (drop 1) e ∙ sym r)
word_of text rest (ends_space e) = (ap ends_word e, ap (drop 1) e)

no_digits : (text rest : List ℕ) → EndsWord text rest → digits text ≡ 0
no_digits text rest (ends_text e r) = ap digits e
no_digits text rest (ends_space e) = ap digits e

-- numbers that are words

pub number_word : (text : List ℕ) → (is_number_len (digits text) && ends_word (drop (digits text) text)) ≡ true → IsNumberWord text (number_from 0 (take (digits text) text)) (drop (digits text + 1) text)
number_word text e =
    let n = digits text in
    let p = both (is_number_len n) (ends_word (drop n text)) e in
    let P : List ℕ → Type 0 = λ rest. EndsWord (drop n text) rest in
    record {
      digits = take n text;
      tail = drop n text;
      spelled = sym (take-append-drop n text);
      is_number = number_is text p.0;
      word = subst P (drop-drop 1 n text) (word_is (drop n text) p.1);
    }

pub number_word_of : (text : List ℕ) (n : ℕ) (rest : List ℕ) → IsNumberWord text n rest → ((is_number_len (digits text) && ends_word (drop (digits text) text)) ≡ true) × (n ≡ number_from 0 (take (digits text) text)) × (rest ≡ drop (digits text + 1) text)
number_word_of text n rest w =
    let number = w.is_number in
    let len : digits text ≡ length w.digits = ap digits w.spelled ∙ digits_of w.digits w.tail number.digits (no_digits w.tail rest w.word) in
    let taken : take (digits text) text ≡ w.digits = ap (take (digits text)) w.spelled ∙ take_at w.digits w.tail (digits text) (sym len) in
    let dropped : drop (digits text) text ≡ w.tail = ap (drop (digits text)) w.spelled ∙ drop_at w.digits w.tail (digits text) (sym len) in
    let p = word_of w.tail rest w.word in (
      both_true (is_number_len (digits text)) (ends_word (drop (digits text) text))
          (number_len_of (digits text) (omega (arith, len, number.some)) (omega (arith, len, number.few)))
          (ap ends_word dropped ∙ p.0),
      number.spelled ∙ sym (ap (number_from 0) taken),
      sym p.1 ∙ sym (ap (drop 1) dropped) ∙ drop-drop 1 (digits text) text,
    )

-- comments behind plans

hash-no_space : (rest : List ℕ) → NoSpace (35 ∷ rest)
hash-no_space rest xs e = absurd (omega (arith, head_is 35 rest xs e))

pub comment_is : (text : List ℕ) → ends_plan text ≡ true → IsComment text
comment_is [] e = no_comment refl
comment_is (b ∷ bs) e =
    let p = both (b == 32) (starts_with nat_eq (unspaced bs) (codes "#")) e in
    some_comment (spaces bs) (drop 1 (unspaced bs))
    (ap (λ x. x ∷ bs) ((Decides-eqb b 32).0 p.0)
    ∙ ap (λ xs. 32 ∷ xs) (spaces_split bs ∙ ap (λ xs. replicate (spaces bs) 32 ++ xs) ((starts (unspaced bs) (codes "#")).0 p.1)))

pub comment_of : (text : List ℕ) → IsComment text → (ends_plan text ≡ true) × (digits text ≡ 0)
comment_of text (no_comment e) = (ap ends_plan e, ap digits e)
comment_of text (some_comment n rest e) = (
  ap ends_plan e ∙ (starts (unspaced (replicate n 32 ++ 35 ∷ rest)) (codes "#")).1 rest (unspaced_of n (35 ∷ rest) (hash-no_space rest)),
  ap digits e,
)

-- dashes

dash_is : (text : List ℕ) → (starts_with nat_eq text (codes "-") && ends_word (drop 1 text)) ≡ true → IsDash text (drop 2 text)
dash_is text e =
    let p = both (starts_with nat_eq text (codes "-")) (ends_word (drop 1 text)) e in
    let P : List ℕ → Type 0 = λ rest. EndsWord (drop 1 text) rest in
    record {
      tail = drop 1 text;
      spelled = (starts text (codes "-")).0 p.0;
      word = subst P (drop-drop 1 1 text) (word_is (drop 1 text) p.1);
    }

dash_of : (text rest : List ℕ) → IsDash text rest → ((starts_with nat_eq text (codes "-") && ends_word (drop 1 text)) ≡ true) × (drop 2 text ≡ rest)
dash_of text rest d =
    let p = word_of d.tail rest d.word in
    let tail : drop 1 text ≡ d.tail = ap (drop 1) d.spelled in (
      both_true (starts_with nat_eq text (codes "-")) (ends_word (drop 1 text)) ((starts text (codes "-")).1 d.tail d.spelled) (ap ends_word tail ∙ p.0),
      sym (drop-drop 1 1 text) ∙ ap (drop 1) tail ∙ p.1,
    )

dashed_by : (t : Bool) (text : List ℕ) → (starts_with nat_eq text (codes "-") && ends_word (drop 1 text)) ≡ t → IsDashed text (cond t (drop 2 text) text)
dashed_by true text e = with_dash (dash_is text e)
dashed_by false text e =
    without_dash (λ behind d. let h : true ≡ false = sym (dash_of text behind d).0 ∙ e in absurd (cc)) refl

pub dashed_is : (text : List ℕ) → IsDashed text (undashed text)
dashed_is text = dashed_by (starts_with nat_eq text (codes "-") && ends_word (drop 1 text)) text refl

not_dash : (t : Bool) (text : List ℕ) → (starts_with nat_eq text (codes "-") && ends_word (drop 1 text)) ≡ t → ((behind : List ℕ) → ¬ IsDash text behind) → t ≡ false
not_dash true text e no_ = absurd (no_ (drop 2 text) (dash_is text e))
not_dash false text e no_ = refl

pub dashed_of : (text rest : List ℕ) → IsDashed text rest → undashed text ≡ rest
dashed_of text rest (with_dash d) =
    let p = dash_of text rest d in rw p.0 p.1
dashed_of text rest (without_dash no_ e) =
    let p = not_dash (starts_with nat_eq text (codes "-") && ends_word (drop 1 text)) text refl no_ in rw p (sym e)
