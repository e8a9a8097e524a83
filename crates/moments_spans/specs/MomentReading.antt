-- How the code reads a moment from left to right. Callers read `MomentGrammar`, which says what it
-- finds. A reader gives its value and the rest, or how many bytes stood from the first bad place
-- on: the first byte after which no text of the grammar goes on, or the end of a text that ends too
-- soon.
use Rattle.std.specs.Prelude.{ℕ, zero, suc, ◌+◌, ◌-◌, ◌*◌, ◌/◌, ◌&&◌, ◌==◌, if◌then◌else◌, nat_le, Bool, true, false, int_le, List, [], ◌∷◌, length, Result, Ok, Err, ℤ, pos, neg_ℤ}
use Rattle.std.specs.Borrow.{Bor}
use Rattle.std.specs.Char.{is_ascii_digit}
use Rattle.jiff_core.specs.Calendar.{days_from_civil, days_in_month}
use Rattle.name_parts.specs.declared.faults.NameFault.{NameFault}
use Rattle.name_parts.specs.declared.faults.NameFault.TheVariants.{Empty, BadByte, OutOfRange}
use Rattle.moments_spans.specs.Moments.{least_moment, greatest_moment, moment_at}

infixl 10 ◌>>=◌
abbrev pub ◌>>=◌ : {A B E : Type 0} → Result A E → (A → Result B E) → Result B E
(Ok x) >>= f = f x
(Err e) >>= f = Err e

-- what a function of the program gives
abbrev pub seen : {A : Type 0} → Result (A × Bor (List ℕ)) ℕ → Result (A × List ℕ) ℕ
seen (Ok x) = Ok (x.0, x.1.now)
seen (Err left) = Err left

abbrev pub seen_rest : Result (Bor (List ℕ)) ℕ → Result (List ℕ) ℕ
seen_rest (Ok rest) = Ok rest.now
seen_rest (Err left) = Err left

-- one digit more, worth so much, of a number that can still come to lie from low to high
unfoldable pub digit_from : ℕ → ℕ → ℕ → ℕ → List ℕ → Result (ℕ × List ℕ) ℕ
digit_from worth low high so_far [] = Err 0
digit_from worth low high so_far (b ∷ bs) =
    if is_ascii_digit b && nat_le (so_far + worth * (b - 48)) high
    && nat_le low (so_far + worth * (b - 48) + (worth - 1))
    then Ok (so_far + worth * (b - 48), bs)
    else Err (length (b ∷ bs))

-- two digits, a number from low to high
unfoldable pub two_from : ℕ → ℕ → List ℕ → Result (ℕ × List ℕ) ℕ
two_from low high text = do
  tens ← digit_from 10 low high 0 text
  digit_from 1 low high tens.0 tens.1

-- four digits, a year from 1 to 9999
unfoldable pub year_from : List ℕ → Result (ℕ × List ℕ) ℕ
year_from text = do
  thousands ← digit_from 1000 1 9999 0 text
  hundreds ← digit_from 100 1 9999 thousands.0 thousands.1
  tens ← digit_from 10 1 9999 hundreds.0 hundreds.1
  digit_from 1 1 9999 tens.0 tens.1

-- this byte
unfoldable pub byte_from : ℕ → List ℕ → Result (List ℕ) ℕ
byte_from c [] = Err 0
byte_from c (b ∷ bs) = if b == c then Ok bs else Err (length (b ∷ bs))

-- a date of the calendar, as its day number
unfoldable pub day_from : List ℕ → Result (ℤ × List ℕ) ℕ
day_from text = do
  year ← year_from text
  behind_year ← byte_from 45 year.1
  month ← two_from 1 12 behind_year
  behind_month ← byte_from 45 month.1
  day ← two_from 1 (days_in_month (pos year.0) month.0) behind_month
  Ok (days_from_civil (pos year.0) month.0 day.0, day.1)

-- up to so many digits more behind a point, each worth a tenth of the one before it; what is worth
-- less than a microsecond is dropped
unfoldable pub fraction_from : ℕ → ℕ → ℕ → List ℕ → ℕ × List ℕ
fraction_from zero worth so_far text = (so_far, text)
fraction_from (suc left) worth so_far [] = (so_far, [])
fraction_from (suc left) worth so_far (b ∷ bs) =
    if is_ascii_digit b then fraction_from left (worth / 10) (so_far + worth * (b - 48)) bs
    else (so_far, b ∷ bs)

-- at least one digit, and up to nine
unfoldable pub digits_from : List ℕ → Result (ℕ × List ℕ) ℕ
digits_from [] = Err 0
digits_from (b ∷ bs) =
    if is_ascii_digit b then Ok (fraction_from 9 100_000 0 (b ∷ bs)) else Err (length (b ∷ bs))

-- the decimals where there is a point, as microseconds
unfoldable pub decimals_from : List ℕ → Result (ℕ × List ℕ) ℕ
decimals_from [] = Ok (0, [])
decimals_from (b ∷ bs) = if b == 46 then digits_from bs else Ok (0, b ∷ bs)

-- hours and minutes, as minutes
unfoldable pub minutes_from : List ℕ → Result (ℕ × List ℕ) ℕ
minutes_from text = do
  hours ← two_from 0 23 text
  behind ← byte_from 58 hours.1
  minutes ← two_from 0 59 behind
  Ok (hours.0 * 60 + minutes.0, minutes.1)

-- a time of day, as microseconds
unfoldable pub clock_from : List ℕ → Result (ℕ × List ℕ) ℕ
clock_from text = do
  minutes ← minutes_from text
  behind ← byte_from 58 minutes.1
  seconds ← two_from 0 59 behind
  decimals ← decimals_from seconds.1
  Ok ((minutes.0 * 60 + seconds.0) * 1_000_000 + decimals.0, decimals.1)

-- how many minutes a clock is before UTC, or behind it
unfoldable pub offset_from : Bool → List ℕ → Result (ℤ × List ℕ) ℕ
offset_from is_behind text = do
  minutes ← minutes_from text
  Ok (if is_behind then neg_ℤ (pos minutes.0) else pos minutes.0, minutes.1)

-- `Z`, or an offset
unfoldable pub zone_from : List ℕ → Result (ℤ × List ℕ) ℕ
zone_from [] = Err 0
zone_from (b ∷ bs) =
    if b == 90 then Ok (pos 0, bs)
    else (if b == 43 then offset_from false bs
    else (if b == 45 then offset_from true bs
    else Err (length (b ∷ bs))))

-- nothing more
abbrev pub ended : ℤ → List ℕ → Result ℤ ℕ
ended micros [] = Ok micros
ended micros (b ∷ bs) = Err (length (b ∷ bs))

-- a moment in microseconds, all of the text
unfoldable pub moment_from : List ℕ → Result ℤ ℕ
moment_from text = do
  day ← day_from text
  behind ← byte_from 84 day.1
  clock ← clock_from behind
  zone ← zone_from clock.1
  ended (moment_at day.0 clock.0 zone.0) zone.1

-- the moment is of a year from 1 to 9999
abbrev pub is_in_years : ℤ → Bool
is_in_years micros = int_le least_moment micros && int_le micros greatest_moment

-- what is read of a text of this length, where a reader of moments gives this
unfoldable pub moment_judged : ℕ → Result ℤ ℕ → Result ℤ NameFault
moment_judged len (Ok micros) = if is_in_years micros then Ok micros else Err OutOfRange
moment_judged len (Err left) = Err (BadByte (len - left))

-- What a text reads as: its moment, or what is wrong with it.
abbrev pub moment_of : List ℕ → Result ℤ NameFault
moment_of text =
    if length text == 0 then Err Empty else moment_judged (length text) (moment_from text)
