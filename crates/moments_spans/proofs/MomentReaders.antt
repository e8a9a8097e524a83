-- Each reader of a moment's part reads just the texts of its grammar.
use Rattle.std.proofs.Common.{◌≡◌, ℕ, ◌+◌, ◌-◌, ◌*◌, ◌/◌, ◌%◌, ◌≤◌, ◌&&◌, nat_le, true, false, Bool, List, [], ◌∷◌, ◌++◌, length, Ok, Err, ℤ, pos, refl, sym, ap, ◌∙◌, arith, append-nil}
use Rattle.std.proofs.lemmas.Bool.Decides.{nat_tests}
use Rattle.std.specs.Char.{is_ascii_digit}
use Rattle.std.specs.Int.{IsInRange}
use Rattle.jiff_core.specs.Calendar.{days_from_civil, days_in_month}
use Rattle.jiff_core.proofs.CalendarLemmas.{days_in_month_bounds}
use Rattle.moments_spans.specs.Moments.{two_digits, four_digits}
use Rattle.moments_spans.specs.MomentReading.{digit_from, two_from, year_from, day_from, minutes_from}
use Rattle.moments_spans.specs.MomentGrammar.{IsDateText, IsHourAndMinute}
use Rattle.moments_spans.proofs.DigitLaws.{digit_read}
use Rattle.moments_spans.proofs.ReaderLaws.{Reader, IsRead, Breaks, Some, Reads, Anything, by_test, same_err, same_ok, not_both, complete_as, joined, Joined, joined_reads, behind, Behind, behind_reads, IsGiven, given_reads}

-- one digit of a number that can still come to lie from low to high
pub record IsDigitOf (worth low high so_far : ℕ) (text : List ℕ) (v : ℕ) : Type 0 where
  pub digit : ℕ
  pub few : digit ≤ 9
  pub spelled : text ≡ (48 + digit) ∷ []
  pub number : v ≡ so_far + worth * digit
  pub most : v ≤ high
  pub least : low ≤ v + (worth - 1)

abbrev fits : ℕ → ℕ → ℕ → ℕ → ℕ → Bool
fits worth low high so_far b = is_ascii_digit b && nat_le (so_far + worth * (b - 48)) high && nat_le low (so_far + worth * (b - 48) + (worth - 1))

digit_taken : (worth low high so_far b : ℕ) (bs : List ℕ) → fits worth low high so_far b ≡ true → digit_from worth low high so_far (b ∷ bs) ≡ Ok (so_far + worth * (b - 48), bs)
unfolding digit_from
digit_taken worth low high so_far b bs e = rw e refl

digit_refused : (worth low high so_far b : ℕ) (bs : List ℕ) → fits worth low high so_far b ≡ false → digit_from worth low high so_far (b ∷ bs) ≡ Err (length (b ∷ bs))
unfolding digit_from
digit_refused worth low high so_far b bs e = rw e refl

no_digit : (worth low high so_far : ℕ) → digit_from worth low high so_far [] ≡ Err 0
unfolding digit_from
no_digit worth low high so_far = refl

and_left : (a b : Bool) → (a && b) ≡ true → a ≡ true
and_left true b e = refl
and_left false b e = e

and_right : (a b : Bool) → (a && b) ≡ true → b ≡ true
and_right true b e = e
and_right false b e = absurd cc

digit_of_byte : (b : ℕ) → is_ascii_digit b ≡ true → b ≡ 48 + (b - 48)
digit_of_byte b e = grind (arith, nat_tests)

at_most_nine : (b : ℕ) → is_ascii_digit b ≡ true → b - 48 ≤ 9
at_most_nine b e = grind (arith, nat_tests)

le_of_test : (a b : ℕ) → nat_le a b ≡ true → a ≤ b
le_of_test a b e = grind (arith, nat_tests)

digit_said : (worth low high so_far b : ℕ) → fits worth low high so_far b ≡ true → IsDigitOf worth low high so_far (b ∷ []) (so_far + worth * (b - 48))
digit_said worth low high so_far b e =
    let first = and_left _ _ e in
    let is = and_left _ _ first in
    record {
      digit = b - 48;
      few = at_most_nine b is;
      spelled = ap (λ x. x ∷ []) (digit_of_byte b is);
      number = refl;
      most = le_of_test _ _ (and_right _ _ first);
      least = le_of_test _ _ (and_right _ _ e);
    }

module _ (worth low high so_far : ℕ) (some : Some (IsDigitOf worth low high so_far)) where
  digit_sound : (text rest : List ℕ) (v : ℕ) → digit_from worth low high so_far text ≡ Ok (v, rest) → IsRead (digit_from worth low high so_far) (IsDigitOf worth low high so_far) text rest v
  digit_sound [] rest v e = not_both (v, rest) 0 _ e (no_digit worth low high so_far)
  digit_sound (b ∷ bs) rest v e =
      by_test (fits worth low high so_far b)
      (λ yes_is.
      let same : (so_far + worth * (b - 48), bs) ≡ (v, rest) = same_ok _ _ _ (digit_taken worth low high so_far b bs yes_is) e in
      let number : so_far + worth * (b - 48) ≡ v = ap (λ p. p.0) same in
      record {
        front = b ∷ [];
        parted = ap (λ p. b ∷ p.1) same;
        is = rw number at (digit_said worth low high so_far b yes_is);
        keeps = λ c cs more at. digit_taken worth low high so_far b (c ∷ more) yes_is ∙ ap (λ n. Ok (n, c ∷ more)) number;
      })
      (λ no_is. not_both (v, rest) (length (b ∷ bs)) _ e (digit_refused worth low high so_far b bs no_is))

  digit_breaks : (text : List ℕ) (left : ℕ) → digit_from worth low high so_far text ≡ Err left → Breaks (digit_from worth low high so_far) (IsDigitOf worth low high so_far) text left
  digit_breaks [] left e = record {
    front = [];
    bad = [];
    parted = refl;
    many = same_err 0 left _ (no_digit worth low high so_far) e;
    more = some.text;
    value = some.value;
    goes_on = some.is;
    fails = λ b bs other is. absurd cc;
  }
  digit_breaks (b ∷ bs) left e =
      by_test (fits worth low high so_far b)
      (λ yes_is. not_both (so_far + worth * (b - 48), bs) left _ (digit_taken worth low high so_far b bs yes_is) e)
      (λ no_is. record {
        front = [];
        bad = b ∷ bs;
        parted = refl;
        many = same_err (length (b ∷ bs)) left _ (digit_refused worth low high so_far b bs no_is) e;
        more = some.text;
        value = some.value;
        goes_on = some.is;
        fails = λ c cs other is.
            let same : b ≡ c = cc in
            digit_refused worth low high so_far c other (ap (fits worth low high so_far) (sym same) ∙ no_is);
      })

  digit_reads : Reads (digit_from worth low high so_far) (IsDigitOf worth low high so_far) Anything
  digit_reads = record {
    some = some;
    sound = digit_sound;
    breaks = digit_breaks;
    complete = λ front rest v is stops.
        ap (λ t. digit_from worth low high so_far (t ++ rest)) is.spelled
        ∙ digit_read worth low high so_far is.digit rest is.few (rw is.number at is.most) (rw is.number at is.least)
        ∙ ap (λ n. Ok (n, rest)) (sym is.number);
  }

-- two digits
pub record IsTwo (low high : ℕ) (text : List ℕ) (v : ℕ) : Type 0 where
  pub range : IsInRange low high v
  pub spelled : text ≡ two_digits v

tens_some : (low high : ℕ) → low ≤ high → high ≤ 99 → Some (IsDigitOf 10 low high 0)
tens_some low high order few = record {
  text = (48 + low / 10) ∷ [];
  value = 0 + 10 * (low / 10);
  is = record { digit = low / 10; few = omega arith; spelled = refl; number = refl; most = omega arith; least = omega arith };
}

ones_some : (low high so_far : ℕ) → low ≤ high → so_far ≤ high → low ≤ so_far + 9 → Some (IsDigitOf 1 low high so_far)
ones_some low high so_far order most least = record {
  text = (48 + (low - so_far)) ∷ [];
  value = so_far + 1 * (low - so_far);
  is = record { digit = low - so_far; few = omega arith; spelled = refl; number = refl; most = omega arith; least = omega arith };
}

two_said : (low high : ℕ) (text : List ℕ) (v : ℕ) → Joined (IsDigitOf 10 low high 0) (λ n. IsDigitOf 1 low high n) text v → IsTwo low high text v
two_said low high text v is =
    let a = is.first in
    let b = is.second in
    let same : v ≡ 10 * a.digit + b.digit = omega (arith, a.number, b.number) in
    let tens : v / 10 ≡ a.digit = omega (arith, same, a.few, b.few) in
    let ones : v % 10 ≡ b.digit = omega (arith, same, a.few, b.few) in
    record {
      range = (omega (arith, b.least), b.most);
      spelled = is.parted ∙ ap (λ t. t ++ is.rest) a.spelled ∙ ap (λ t. (48 + a.digit) ∷ t) b.spelled
          ∙ ap (λ n. (48 + n) ∷ (48 + b.digit) ∷ []) (sym tens) ∙ ap (λ n. (48 + v / 10) ∷ (48 + n) ∷ []) (sym ones);
    }

two_parted : (low high : ℕ) → high ≤ 99 → (text : List ℕ) (v : ℕ) → IsTwo low high text v → Joined (IsDigitOf 10 low high 0) (λ n. IsDigitOf 1 low high n) text v
two_parted low high few text v is = record {
  front = (48 + v / 10) ∷ [];
  rest = (48 + v % 10) ∷ [];
  value = 10 * (v / 10);
  parted = is.spelled;
  first = record { digit = v / 10; few = omega (arith, is.range.1, few); spelled = refl; number = omega arith; most = omega (arith, is.range.1); least = omega (arith, is.range.0) };
  second = record { digit = v % 10; few = omega arith; spelled = refl; number = omega arith; most = is.range.1; least = omega (arith, is.range.0) };
}

pub two_reads : (low high : ℕ) → low ≤ high → high ≤ 99 → Reads (two_from low high) (IsTwo low high) Anything
unfolding two_from
two_reads low high order few =
    complete_as (joined (digit_from 10 low high 0) (λ n. digit_from 1 low high n)) (Joined (IsDigitOf 10 low high 0) (λ n. IsDigitOf 1 low high n)) Anything (IsTwo low high)
    (joined_reads (digit_from 10 low high 0) (λ n. digit_from 1 low high n) (IsDigitOf 10 low high 0) (λ n. IsDigitOf 1 low high n) Anything Anything
    (digit_reads 10 low high 0 (tens_some low high order few))
    (λ t n is. digit_reads 1 low high n (ones_some low high n order is.most is.least))
    (λ n t v rest is ends. tt))
    (two_said low high) (two_parted low high few)

-- four digits, a year

pub record IsYear (text : List ℕ) (v : ℕ) : Type 0 where
  pub range : IsInRange 1 9999 v
  pub spelled : text ≡ four_digits v

hundreds_some : (so_far : ℕ) → so_far ≤ 9999 → 1 ≤ so_far + 999 → Some (IsDigitOf 100 1 9999 so_far)
hundreds_some so_far most least = record { text = 48 ∷ []; value = so_far + 100 * 0; is = record { digit = 0; few = omega arith; spelled = refl; number = refl; most = omega arith; least = omega arith } }

thousands_some : Some (IsDigitOf 1000 1 9999 0)
thousands_some = record { text = 48 ∷ []; value = 0 + 1000 * 0; is = record { digit = 0; few = omega arith; spelled = refl; number = refl; most = omega arith; least = omega arith } }

year_tens_some : (so_far : ℕ) → so_far ≤ 9999 → 1 ≤ so_far + 99 → Some (IsDigitOf 10 1 9999 so_far)
year_tens_some so_far most least = record { text = 48 ∷ []; value = so_far + 10 * 0; is = record { digit = 0; few = omega arith; spelled = refl; number = refl; most = omega arith; least = omega arith } }

abbrev Tens : ℕ → List ℕ → ℕ → Type 0
Tens n = Joined (IsDigitOf 10 1 9999 n) (λ m. IsDigitOf 1 1 9999 m)

abbrev Hundreds : ℕ → List ℕ → ℕ → Type 0
Hundreds n = Joined (IsDigitOf 100 1 9999 n) (λ m. Tens m)

abbrev Thousands : List ℕ → ℕ → Type 0
Thousands = Joined (IsDigitOf 1000 1 9999 0) (λ m. Hundreds m)

tens_reads : (n : ℕ) → n ≤ 9999 → 1 ≤ n + 99 → Reads (joined (digit_from 10 1 9999 n) (λ m. digit_from 1 1 9999 m)) (Tens n) Anything
tens_reads n most least =
    joined_reads (digit_from 10 1 9999 n) (λ m. digit_from 1 1 9999 m) (IsDigitOf 10 1 9999 n) (λ m. IsDigitOf 1 1 9999 m) Anything Anything
    (digit_reads 10 1 9999 n (year_tens_some n most least))
    (λ t m is. digit_reads 1 1 9999 m (ones_some 1 9999 m (omega arith) is.most is.least))
    (λ m t v rest is ends. tt)

hundreds_reads : (n : ℕ) → n ≤ 9999 → 1 ≤ n + 999 → Reads (joined (digit_from 100 1 9999 n) (λ m. joined (digit_from 10 1 9999 m) (λ k. digit_from 1 1 9999 k))) (Hundreds n) Anything
hundreds_reads n most least =
    joined_reads (digit_from 100 1 9999 n) (λ m. joined (digit_from 10 1 9999 m) (λ k. digit_from 1 1 9999 k)) (IsDigitOf 100 1 9999 n) (λ m. Tens m) Anything Anything
    (digit_reads 100 1 9999 n (hundreds_some n most least))
    (λ t m is. tens_reads m is.most is.least)
    (λ m t v rest is ends. tt)

year_said : (text : List ℕ) (v : ℕ) → Thousands text v → IsYear text v
year_said text v is =
    let a = is.first in
    let b = is.second.first in
    let c = is.second.second.first in
    let d = is.second.second.second in
    let same : v ≡ 1000 * a.digit + 100 * b.digit + 10 * c.digit + d.digit = omega (arith, a.number, b.number, c.number, d.number) in
    let ea : v / 100 / 10 ≡ a.digit = omega (arith, same, a.few, b.few, c.few, d.few) in
    let eb : v / 100 % 10 ≡ b.digit = omega (arith, same, a.few, b.few, c.few, d.few) in
    let ec : v % 100 / 10 ≡ c.digit = omega (arith, same, a.few, b.few, c.few, d.few) in
    let ed : v % 100 % 10 ≡ d.digit = omega (arith, same, a.few, b.few, c.few, d.few) in
    record {
      range = (omega (arith, d.least), d.most);
      spelled = is.parted ∙ ap (λ t. t ++ is.rest) a.spelled
          ∙ ap (λ t. (48 + a.digit) ∷ t) (is.second.parted ∙ ap (λ t. t ++ is.second.rest) b.spelled
          ∙ ap (λ t. (48 + b.digit) ∷ t) (is.second.second.parted ∙ ap (λ t. t ++ is.second.second.rest) c.spelled
          ∙ ap (λ t. (48 + c.digit) ∷ t) d.spelled))
          ∙ rw (ea, eb, ec, ed) refl;
    }

year_parted : (text : List ℕ) (v : ℕ) → IsYear text v → Thousands text v
year_parted text v is = record {
  front = (48 + v / 100 / 10) ∷ [];
  rest = (48 + v / 100 % 10) ∷ (48 + v % 100 / 10) ∷ (48 + v % 100 % 10) ∷ [];
  value = 1000 * (v / 100 / 10);
  parted = is.spelled;
  first = record { digit = v / 100 / 10; few = omega (arith, is.range.1); spelled = refl; number = omega arith; most = omega (arith, is.range.1); least = omega arith };
  second = record {
    front = (48 + v / 100 % 10) ∷ [];
    rest = (48 + v % 100 / 10) ∷ (48 + v % 100 % 10) ∷ [];
    value = 1000 * (v / 100 / 10) + 100 * (v / 100 % 10);
    parted = refl;
    first = record { digit = v / 100 % 10; few = omega arith; spelled = refl; number = refl; most = omega (arith, is.range.1); least = omega arith };
    second = record {
      front = (48 + v % 100 / 10) ∷ [];
      rest = (48 + v % 100 % 10) ∷ [];
      value = 1000 * (v / 100 / 10) + 100 * (v / 100 % 10) + 10 * (v % 100 / 10);
      parted = refl;
      first = record { digit = v % 100 / 10; few = omega arith; spelled = refl; number = refl; most = omega (arith, is.range.1); least = omega arith };
      second = record { digit = v % 100 % 10; few = omega arith; spelled = refl; number = omega arith; most = is.range.1; least = omega (arith, is.range.0) };
    };
  };
}

year_reads : Reads year_from IsYear Anything
unfolding year_from
year_reads =
    complete_as (joined (digit_from 1000 1 9999 0) (λ n. joined (digit_from 100 1 9999 n) (λ m. joined (digit_from 10 1 9999 m) (λ k. digit_from 1 1 9999 k)))) Thousands Anything IsYear
    (joined_reads (digit_from 1000 1 9999 0) (λ n. joined (digit_from 100 1 9999 n) (λ m. joined (digit_from 10 1 9999 m) (λ k. digit_from 1 1 9999 k))) (IsDigitOf 1000 1 9999 0) (λ n. Hundreds n) Anything Anything
    (digit_reads 1000 1 9999 0 thousands_some)
    (λ t n is. hundreds_reads n is.most is.least)
    (λ n t v rest is ends. tt))
    year_said year_parted

-- a date

abbrev InMonth : ℕ → ℕ → List ℕ → ℤ → Type 0
InMonth y m = Joined (IsTwo 1 (days_in_month (pos y) m)) (λ d. IsGiven (days_from_civil (pos y) m d))

abbrev InYear : ℕ → List ℕ → ℤ → Type 0
InYear y = Joined (IsTwo 1 12) (λ m. Behind 45 (InMonth y m))

abbrev Dates : List ℕ → ℤ → Type 0
Dates = Joined IsYear (λ y. Behind 45 (InYear y))

abbrev month_reader : ℕ → ℕ → Reader ℤ
month_reader y m = joined (two_from 1 (days_in_month (pos y) m)) (λ d rest. Ok (days_from_civil (pos y) m d, rest))

abbrev year_reader : ℕ → Reader ℤ
year_reader y = joined (two_from 1 12) (λ m. behind 45 (month_reader y m))

month_reads : (y m : ℕ) → Reads (month_reader y m) (InMonth y m) Anything
month_reads y m =
    let long = days_in_month_bounds (pos y) m in
    joined_reads (two_from 1 (days_in_month (pos y) m)) (λ d rest. Ok (days_from_civil (pos y) m d, rest)) (IsTwo 1 (days_in_month (pos y) m)) (λ d. IsGiven (days_from_civil (pos y) m d)) Anything Anything
    (two_reads 1 (days_in_month (pos y) m) (omega (arith, long.1)) (omega (arith, long.0)))
    (λ t d is. given_reads (days_from_civil (pos y) m d) Anything)
    (λ d t v rest is ends. tt)

in_year_reads : (y : ℕ) → Reads (year_reader y) (InYear y) Anything
in_year_reads y =
    joined_reads (two_from 1 12) (λ m. behind 45 (month_reader y m)) (IsTwo 1 12) (λ m. Behind 45 (InMonth y m)) Anything Anything
    (two_reads 1 12 (omega arith) (omega arith))
    (λ t m is. behind_reads 45 (month_reader y m) (InMonth y m) Anything (month_reads y m))
    (λ m t v rest is ends. tt)

date_said : (text : List ℕ) (day : ℤ) → Dates text day → IsDateText text day
date_said text day is =
    let year = is.first in
    let months = is.second.is in
    let month = months.first in
    let days = months.second.is in
    let day_of = days.first in
    let none = days.second.none in
    record {
      date = record { year = is.value; month = months.value; day = days.value };
      in_years = year.range;
      in_year = month.range;
      in_month = day_of.range;
      spelled = is.parted ∙ ap (λ t. t ++ is.rest) year.spelled ∙ ap (λ t. four_digits is.value ++ t)
          (is.second.parted ∙ ap (λ t. 45 ∷ t) (months.parted ∙ ap (λ t. t ++ months.rest) month.spelled ∙ ap (λ t. two_digits months.value ++ t)
          (months.second.parted ∙ ap (λ t. 45 ∷ t) (days.parted ∙ ap (λ t. days.front ++ t) none ∙ append-nil days.front ∙ day_of.spelled))));
      number = days.second.same;
    }

date_parted : (text : List ℕ) (day : ℤ) → IsDateText text day → Dates text day
date_parted text day is =
    let d = is.date in
    record {
      front = four_digits d.year;
      rest = 45 ∷ (two_digits d.month ++ 45 ∷ two_digits d.day);
      value = d.year;
      parted = is.spelled;
      first = record { range = is.in_years; spelled = refl };
      second = record {
        rest = two_digits d.month ++ 45 ∷ two_digits d.day;
        parted = refl;
        is = record {
          front = two_digits d.month;
          rest = 45 ∷ two_digits d.day;
          value = d.month;
          parted = refl;
          first = record { range = is.in_year; spelled = refl };
          second = record {
            rest = two_digits d.day;
            parted = refl;
            is = record {
              front = two_digits d.day;
              rest = [];
              value = d.day;
              parted = refl;
              first = record { range = is.in_month; spelled = refl };
              second = record { none = refl; same = is.number };
            };
          };
        };
      };
    }

pub day_reads : Reads day_from IsDateText Anything
unfolding day_from
day_reads =
    complete_as (joined year_from (λ y. behind 45 (year_reader y))) Dates Anything IsDateText
    (joined_reads year_from (λ y. behind 45 (year_reader y)) IsYear (λ y. Behind 45 (InYear y)) Anything Anything
    year_reads
    (λ t y is. behind_reads 45 (year_reader y) (InYear y) Anything (in_year_reads y))
    (λ y t v rest is ends. tt))
    date_said date_parted

-- hours and minutes

abbrev Minutes : ℕ → List ℕ → ℕ → Type 0
Minutes h = Joined (IsTwo 0 59) (λ m. IsGiven (h * 60 + m))

abbrev Hours : List ℕ → ℕ → Type 0
Hours = Joined (IsTwo 0 23) (λ h. Behind 58 (Minutes h))

abbrev minute_reader : ℕ → Reader ℕ
minute_reader h = joined (two_from 0 59) (λ m rest. Ok (h * 60 + m, rest))

minute_reads : (h : ℕ) → Reads (minute_reader h) (Minutes h) Anything
minute_reads h =
    joined_reads (two_from 0 59) (λ m rest. Ok (h * 60 + m, rest)) (IsTwo 0 59) (λ m. IsGiven (h * 60 + m)) Anything Anything
    (two_reads 0 59 (omega arith) (omega arith))
    (λ t m is. given_reads (h * 60 + m) Anything)
    (λ m t v rest is ends. tt)

hours_said : (text : List ℕ) (n : ℕ) → Hours text n → IsHourAndMinute text n
hours_said text n is =
    let minutes = is.second.is in
    record {
      hour = is.value;
      minute = minutes.value;
      in_day = is.first.range.1;
      in_hour = minutes.first.range.1;
      spelled = is.parted ∙ ap (λ t. t ++ is.rest) is.first.spelled ∙ ap (λ t. two_digits is.value ++ t)
          (is.second.parted ∙ ap (λ t. 58 ∷ t) (minutes.parted ∙ ap (λ t. minutes.front ++ t) minutes.second.none ∙ append-nil minutes.front ∙ minutes.first.spelled));
      number = minutes.second.same;
    }

hours_parted : (text : List ℕ) (n : ℕ) → IsHourAndMinute text n → Hours text n
hours_parted text n is = record {
  front = two_digits is.hour;
  rest = 58 ∷ two_digits is.minute;
  value = is.hour;
  parted = is.spelled;
  first = record { range = (omega arith, is.in_day); spelled = refl };
  second = record {
    rest = two_digits is.minute;
    parted = refl;
    is = record {
      front = two_digits is.minute;
      rest = [];
      value = is.minute;
      parted = refl;
      first = record { range = (omega arith, is.in_hour); spelled = refl };
      second = record { none = refl; same = is.number };
    };
  };
}

pub minutes_reads : Reads minutes_from IsHourAndMinute Anything
unfolding minutes_from
minutes_reads =
    complete_as (joined (two_from 0 23) (λ h. behind 58 (minute_reader h))) Hours Anything IsHourAndMinute
    (joined_reads (two_from 0 23) (λ h. behind 58 (minute_reader h)) (IsTwo 0 23) (λ h. Behind 58 (Minutes h)) Anything Anything
    (two_reads 0 23 (omega arith) (omega arith))
    (λ t h is. behind_reads 58 (minute_reader h) (Minutes h) Anything (minute_reads h))
    (λ h t v rest is ends. tt))
    hours_said hours_parted
