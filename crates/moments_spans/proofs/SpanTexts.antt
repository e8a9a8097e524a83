-- Spans are read by their grammar, and refused at the first place that breaks it.
use Rattle.std.proofs.Common.{◌≡◌, ◌≢◌, ℕ, zero, suc, ◌+◌, ◌-◌, ◌*◌, ◌≤◌, ◌<◌, ◌==◌, nat_le, true, false, List, [], ◌∷◌, ◌++◌, length, fold, Result, Ok, Err, refl, sym, ap, subst, ◌∙◌, arith, append_assoc}
use Rattle.std.proofs.lemmas.Bool.Decides.{nat_tests}
use Rattle.std.specs.Char.{is_ascii_digit}
use Rattle.std.specs.Int.{IsInRange}
use Rattle.std.specs.List.{list_all}
use Rattle.name_parts.specs.declared.faults.NameFault.{NameFault}
use Rattle.name_parts.specs.declared.faults.NameFault.TheVariants.{Empty, BadByte, OutOfRange}
use Rattle.name_parts.specs.Grammar.{IsFirstBadPlace}
use Rattle.moments_spans.specs.MomentReading.{◌>>=◌, byte_from, decimals_from}
use Rattle.moments_spans.specs.MomentGrammar.{IsDecimals, none, some}
use Rattle.moments_spans.specs.Spans.{most_span}
use Rattle.moments_spans.specs.SpanReading.{seconds_from, span_ended, span_from, span_judged, span_of, whole_from}
use Rattle.moments_spans.specs.SpanGrammar.{number_of, IsSpanText, SaysSpan, IsSpanFault, empty, bad, outside}
use Rattle.moments_spans.proofs.DigitLaws.{is_positive}
use Rattle.moments_spans.proofs.FractionLemmas.{whole-digit, whole-other, whole-end, whole-zero}
use Rattle.moments_spans.proofs.ReaderLaws.{Reader, IsRead, Breaks, Reads, Anything, by_result, by_test, same_err, same_ok, not_both, complete_as, joined, Joined, joined_reads, behind, Behind, behind_reads, IsGiven, given_reads}
use Rattle.moments_spans.proofs.ClockReaders.{NoDecimals, and_first, and_second, decimals_reads}
use Rattle.moments_spans.proofs.WholeTexts.{assoc, same_behind, whole_complete, whole_sound, whole_breaks}

-- whole seconds

abbrev with_digit : ℕ → ℕ → ℕ
with_digit n b = 10 * n + (b - 48)

-- What stands here ends a number.
abbrev NoDigits : List ℕ → Type 0
NoDigits rest = (b : ℕ) (bs : List ℕ) → rest ≡ b ∷ bs → is_ascii_digit b ≡ false

record Number (left so_far : ℕ) (text : List ℕ) : Type 0 where
  digits : List ℕ
  rest : List ℕ
  parted : text ≡ digits ++ rest
  are_digits : list_all is_ascii_digit digits ≡ true
  few : length digits ≤ left
  is : whole_from left so_far text ≡ (fold with_digit so_far digits, rest)
  keeps : (b : ℕ) (bs more : List ℕ) → rest ≡ b ∷ bs → whole_from left so_far (digits ++ b ∷ more) ≡ (fold with_digit so_far digits, b ∷ more)

no_digits : (left so_far : ℕ) (text : List ℕ) → whole_from left so_far text ≡ (so_far, text) → ((b : ℕ) (bs more : List ℕ) → text ≡ b ∷ bs → whole_from left so_far (b ∷ more) ≡ (so_far, b ∷ more)) → Number left so_far text
no_digits left so_far text is keeps = record { digits = []; rest = text; parted = refl; are_digits = refl; few = omega arith; is = is; keeps = keeps }

one_more : (left so_far b : ℕ) (bs : List ℕ) → is_ascii_digit b ≡ true → Number left (with_digit so_far b) bs → Number (suc left) so_far (b ∷ bs)
one_more left so_far b bs digit n = record {
  digits = b ∷ n.digits;
  rest = n.rest;
  parted = ap (λ t. b ∷ t) n.parted;
  are_digits = rw digit n.are_digits;
  few = omega (arith, n.few);
  is = whole-digit (suc left) left so_far b bs refl digit ∙ n.is;
  keeps = λ c cs more at. whole-digit (suc left) left so_far b (n.digits ++ c ∷ more) refl digit ∙ n.keeps c cs more at;
}

number_parts : (left so_far : ℕ) (text : List ℕ) → Number left so_far text
number_parts zero so_far text = no_digits zero so_far text (whole-zero so_far text) (λ b bs more at. whole-zero so_far (b ∷ more))
number_parts (suc left) so_far [] = no_digits (suc left) so_far [] (whole-end (suc left) so_far) (λ b bs more at. absurd cc)
number_parts (suc left) so_far (b ∷ bs) =
    by_test (is_ascii_digit b)
    (λ digit. one_more left so_far b bs digit (number_parts left (with_digit so_far b) bs))
    (λ other. no_digits (suc left) so_far (b ∷ bs) (whole-other (suc left) so_far b bs other)
    (λ c cs more at. let same : b ≡ c = cc in whole-other (suc left) so_far c more (ap is_ascii_digit (sym same) ∙ other)))

ends_number : (left so_far : ℕ) (rest : List ℕ) → NoDigits rest → whole_from left so_far rest ≡ (so_far, rest)
ends_number left so_far [] ends = whole-end left so_far
ends_number left so_far (b ∷ bs) ends = whole-other left so_far b bs (ends b bs refl)

whole_number : (left so_far : ℕ) (digits rest : List ℕ) → list_all is_ascii_digit digits ≡ true → length digits ≤ left → NoDigits rest → whole_from left so_far (digits ++ rest) ≡ (fold with_digit so_far digits, rest)
whole_number left so_far [] rest all few ends = ends_number left so_far rest ends
whole_number zero so_far (b ∷ bs) rest all few ends = absurd (omega (arith, few))
whole_number (suc left) so_far (b ∷ bs) rest all few ends =
    whole-digit (suc left) left so_far b (bs ++ rest) refl (and_first _ _ all)
    ∙ whole_number left (with_digit so_far b) bs rest (and_second _ _ all) (omega (arith, few)) ends

record IsNumber (text : List ℕ) (n : ℕ) : Type 0 where
  are_digits : list_all is_ascii_digit text ≡ true
  count : IsInRange 1 12 (length text)
  number : n ≡ number_of text

no_seconds : seconds_from [] ≡ Err 0
unfolding seconds_from
no_seconds = refl

seconds_begin : (b : ℕ) (bs : List ℕ) → is_ascii_digit b ≡ true → seconds_from (b ∷ bs) ≡ Ok (whole_from 12 0 (b ∷ bs))
unfolding seconds_from
seconds_begin b bs digit = rw digit refl

seconds_refused : (b : ℕ) (bs : List ℕ) → is_ascii_digit b ≡ false → seconds_from (b ∷ bs) ≡ Err (length (b ∷ bs))
unfolding seconds_from
seconds_refused b bs other = rw other refl

seconds_some : (b : ℕ) (bs rest : List ℕ) (v : ℕ) → is_ascii_digit b ≡ true → seconds_from (b ∷ bs) ≡ Ok (v, rest) → IsRead seconds_from IsNumber (b ∷ bs) rest v
unfolding one_more
seconds_some b bs rest v digit e =
    let m = number_parts 11 (with_digit 0 b) bs in
    let n = one_more 11 0 b bs digit m in
    let least : 1 ≤ length n.digits = omega arith in
    let same : (number_of n.digits, n.rest) ≡ (v, rest) = sym n.is ∙ same_ok _ _ _ (seconds_begin b bs digit) e in
    let number : number_of n.digits ≡ v = ap (λ p. p.0) same in
    let left : n.rest ≡ rest = ap (λ p. p.1) same in
    record {
      front = n.digits;
      parted = n.parted ∙ ap (λ t. n.digits ++ t) left;
      is = record { are_digits = n.are_digits; count = (least, n.few); number = sym number };
      keeps = λ c cs more at.
          seconds_begin b (m.digits ++ c ∷ more) digit ∙ ap Ok (n.keeps c cs more (left ∙ at)) ∙ ap (λ x. Ok (x, c ∷ more)) number;
    }

seconds_sound : (text rest : List ℕ) (v : ℕ) → seconds_from text ≡ Ok (v, rest) → IsRead seconds_from IsNumber text rest v
seconds_sound [] rest v e = not_both (v, rest) 0 _ e no_seconds
seconds_sound (b ∷ bs) rest v e =
    by_test (is_ascii_digit b) (λ digit. seconds_some b bs rest v digit e) (λ other. not_both (v, rest) (length (b ∷ bs)) _ e (seconds_refused b bs other))

one_second : IsNumber (48 ∷ []) 0
one_second = record { are_digits = refl; count = (omega arith, omega arith); number = refl }

seconds_break : (text : List ℕ) (left : ℕ) → seconds_from text ≡ Err left → Breaks seconds_from IsNumber text left
seconds_break [] left e = record {
  front = [];
  bad = [];
  parted = refl;
  many = same_err 0 left _ no_seconds e;
  more = 48 ∷ [];
  value = 0;
  goes_on = one_second;
  fails = λ b bs other at. absurd cc;
}
seconds_break (b ∷ bs) left e =
    by_test (is_ascii_digit b)
    (λ digit. not_both (whole_from 12 0 (b ∷ bs)) left _ (seconds_begin b bs digit) e)
    (λ other. record {
      front = [];
      bad = b ∷ bs;
      parted = refl;
      many = same_err (length (b ∷ bs)) left _ (seconds_refused b bs other) e;
      more = 48 ∷ [];
      value = 0;
      goes_on = one_second;
      fails = λ c cs more at. let same : b ≡ c = cc in seconds_refused c more (ap is_ascii_digit (sym same) ∙ other);
    })

seconds_complete : (front rest : List ℕ) (v : ℕ) → IsNumber front v → NoDigits rest → seconds_from (front ++ rest) ≡ Ok (v, rest)
seconds_complete [] rest v is ends = absurd (omega (arith, is.count.0))
seconds_complete (b ∷ bs) rest v is ends =
    seconds_begin b (bs ++ rest) (and_first _ _ is.are_digits)
    ∙ ap Ok (whole_number 12 0 (b ∷ bs) rest is.are_digits is.count.1 ends) ∙ ap (λ n. Ok (n, rest)) (sym is.number)

seconds_read : Reads seconds_from IsNumber NoDigits
seconds_read = record {
  some = record { text = 48 ∷ []; value = 0; is = one_second };
  sound = seconds_sound;
  breaks = seconds_break;
  complete = seconds_complete;
}

-- a span

abbrev span_at : ℕ → ℕ → ℕ
span_at seconds fraction = seconds * 1_000_000 + fraction

abbrev Ends : ℕ → ℕ → List ℕ → ℕ → Type 0
Ends s f = Behind 115 (IsGiven (span_at s f))

abbrev Fractions : ℕ → List ℕ → ℕ → Type 0
Fractions s = Joined IsDecimals (λ f. Ends s f)

abbrev Spans : List ℕ → ℕ → Type 0
Spans = Joined IsNumber (λ s. Fractions s)

abbrev end_reader : ℕ → ℕ → Reader ℕ
end_reader s f = behind 115 (λ rest. Ok (span_at s f, rest))

abbrev fraction_reader : ℕ → Reader ℕ
fraction_reader s = joined decimals_from (λ f. end_reader s f)

abbrev span_reader : Reader ℕ
span_reader = joined seconds_from (λ s. fraction_reader s)

-- `s` ends decimals and a number
unit_ends : (text rest front : List ℕ) → text ≡ 115 ∷ front → NoDecimals (text ++ rest)
unit_ends text rest front is = subst (λ t. NoDecimals (t ++ rest)) (sym is) (λ b bs at. let e : 115 ≡ b = cc in rw (← e) (refl, refl))

decimals_end : (text rest : List ℕ) (f : ℕ) → IsDecimals text f → NoDecimals rest → NoDigits (text ++ rest)
decimals_end text rest f (none is zero_is) ends = subst (λ t. NoDigits (t ++ rest)) (sym is) (λ b bs at. (ends b bs at).0)
decimals_end text rest f (some digits all count is worth) ends = subst (λ t. NoDigits (t ++ rest)) (sym is) (λ b bs at. let e : 46 ≡ b = cc in rw (← e) refl)

fractions_read : (s : ℕ) → Reads (fraction_reader s) (Fractions s) Anything
fractions_read s =
    joined_reads decimals_from (λ f. end_reader s f) IsDecimals (λ f. Ends s f) NoDecimals Anything
    decimals_reads
    (λ t f is. behind_reads 115 (λ rest. Ok (span_at s f, rest)) (IsGiven (span_at s f)) Anything (given_reads (span_at s f) Anything))
    (λ f t v rest is ends. unit_ends t rest is.rest is.parted)

span_said : (text : List ℕ) (micros : ℕ) → Spans text micros → IsSpanText text micros
span_said text micros is =
    let fractions = is.second in
    let unit = fractions.second in
    record {
      digits = is.front;
      are_digits = is.first.are_digits;
      count = is.first.count;
      decimals_text = fractions.front;
      fraction = fractions.value;
      decimals = fractions.first;
      spelled = is.parted ∙ ap (λ t. is.front ++ t) (fractions.parted ∙ ap (λ t. fractions.front ++ t) (unit.parted ∙ ap (λ t. 115 ∷ t) unit.is.none));
      number = unit.is.same ∙ ap (λ n. span_at n fractions.value) is.first.number;
    }

span_parted : (text : List ℕ) (micros : ℕ) → IsSpanText text micros → Spans text micros
span_parted text micros is = record {
  front = is.digits;
  rest = is.decimals_text ++ 115 ∷ [];
  value = number_of is.digits;
  parted = is.spelled;
  first = record { are_digits = is.are_digits; count = is.count; number = refl };
  second = record {
    front = is.decimals_text;
    rest = 115 ∷ [];
    value = is.fraction;
    parted = refl;
    first = is.decimals;
    second = record { rest = []; parted = refl; is = record { none = refl; same = is.number } };
  };
}

fractions_end : (s : ℕ) (text : List ℕ) (v : ℕ) (rest : List ℕ) → Fractions s text v → NoDigits (text ++ rest)
fractions_end s text v rest is =
    subst (λ t. NoDigits (t ++ rest)) (sym is.parted)
    (subst NoDigits (sym (append_assoc is.front is.rest rest))
    (decimals_end is.front (is.rest ++ rest) is.value is.first (unit_ends is.rest rest is.second.rest is.second.parted)))

span_reads : Reads span_reader IsSpanText Anything
span_reads =
    complete_as span_reader Spans Anything IsSpanText
    (joined_reads seconds_from (λ s. fraction_reader s) IsNumber (λ s. Fractions s) NoDigits Anything
    seconds_read
    (λ t s is. fractions_read s)
    (λ s t v rest is ends. fractions_end s t v rest is))
    span_said span_parted

span_is : (text : List ℕ) → (span_reader text >>= (λ x. span_ended x.0 x.1)) ≡ span_from text
unfolding span_from
span_is text =
    assoc (seconds_from text) _ _
    ∙ same_behind (seconds_from text) _ _ (λ seconds. assoc (decimals_from seconds.1) _ _
    ∙ same_behind (decimals_from seconds.1) _ _ (λ decimals. assoc (byte_from 115 decimals.1) _ _))

say : (t : List ℕ) (micros : ℕ) → IsSpanText t micros → SaysSpan t
say t micros is = record { micros = micros; said = is }

said : (t : List ℕ) → SaysSpan t → (micros : ℕ) × IsSpanText t micros
said t is = (is.micros, is.said)

nothing : (v : ℕ) → span_ended v [] ≡ Ok v
nothing v = refl

more : (v b : ℕ) (bs : List ℕ) → span_ended v (b ∷ bs) ≡ Err (length (b ∷ bs))
more v b bs = refl

pub read_of_text : (text : List ℕ) (micros : ℕ) → IsSpanText text micros → span_from text ≡ Ok micros
read_of_text text micros is = sym (span_is text) ∙ whole_complete span_reader IsSpanText span_reads span_ended nothing more SaysSpan say said text micros is

text_of_read : (text : List ℕ) (micros : ℕ) → span_from text ≡ Ok micros → IsSpanText text micros
text_of_read text micros e = whole_sound span_reader IsSpanText span_reads span_ended nothing more SaysSpan say said text micros (span_is text ∙ e)

place_of_refusal : (text : List ℕ) (left : ℕ) → span_from text ≡ Err left → IsFirstBadPlace SaysSpan text (length text - left)
place_of_refusal text left e = whole_breaks span_reader IsSpanText span_reads span_ended nothing more SaysSpan say said text left (span_is text ∙ e)

judged_in : (len micros : ℕ) → nat_le micros most_span ≡ true → span_judged len (Ok micros) ≡ Ok micros
unfolding span_judged
judged_in len micros e = rw e refl

judged_out : (len micros : ℕ) → nat_le micros most_span ≡ false → span_judged len (Ok micros) ≡ Err OutOfRange
unfolding span_judged
judged_out len micros e = rw e refl

judged_bad : (len left : ℕ) → span_judged len (Err left) ≡ Err (BadByte (len - left))
unfolding span_judged
judged_bad len left = refl

is_longer : (micros : ℕ) → nat_le micros most_span ≡ false → most_span < micros
is_longer micros e = grind (arith, nat_tests, e)

abbrev judged : List ℕ → Result ℕ NameFault
judged text = span_judged (length text) (span_from text)

judged_said : (text : List ℕ) (micros : ℕ) → judged text ≡ Ok micros → IsSpanText text micros
judged_said text micros e =
    by_result (span_from text)
    (λ found at.
    let is = ap (span_judged (length text)) at in
    by_test (nat_le found most_span)
    (λ within.
    let same : found ≡ micros = same_ok found micros (judged text) (is ∙ judged_in (length text) found within) e in
    text_of_read text micros (at ∙ ap Ok same))
    (λ out. not_both micros OutOfRange (judged text) e (is ∙ judged_out (length text) found out)))
    (λ left at. not_both micros (BadByte (length text - left)) (judged text) e (ap (span_judged (length text)) at ∙ judged_bad (length text) left))

judged_fault : (text : List ℕ) (f : NameFault) → text ≢ [] → judged text ≡ Err f → IsSpanFault text f
judged_fault text f some_bytes e =
    by_result (span_from text)
    (λ found at.
    let is = ap (span_judged (length text)) at in
    by_test (nat_le found most_span)
    (λ within. not_both found f (judged text) (is ∙ judged_in (length text) found within) e)
    (λ out. outside found (text_of_read text found at) (is_longer found out) (same_err f OutOfRange (judged text) e (is ∙ judged_out (length text) found out))))
    (λ left at. bad some_bytes (length text - left) (place_of_refusal text left at) (same_err f (BadByte (length text - left)) (judged text) e (ap (span_judged (length text)) at ∙ judged_bad (length text) left)))

is_some : (b : ℕ) (bs : List ℕ) → (length (b ∷ bs) == 0) ≡ false
is_some b bs = is_positive _ (omega arith)

-- A text that is read says the span.
pub said_of_text : (text : List ℕ) (micros : ℕ) → span_of text ≡ Ok micros → IsSpanText text micros
said_of_text [] micros e = not_both micros Empty (Err Empty) e refl
said_of_text (b ∷ bs) micros e = judged_said (b ∷ bs) micros (rw (is_some b bs) at e)

-- A text that is refused is wrong just so.
pub fault_of_text : (text : List ℕ) (f : NameFault) → span_of text ≡ Err f → IsSpanFault text f
fault_of_text [] f e = empty refl (same_err f Empty (Err Empty) e refl)
fault_of_text (b ∷ bs) f e = judged_fault (b ∷ bs) f (λ gone. absurd cc) (rw (is_some b bs) at e)
