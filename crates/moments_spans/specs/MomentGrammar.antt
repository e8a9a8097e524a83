-- The grammar of moments: which text says which moment.
use Rattle.std.specs.Prelude.{◌≡◌, ◌≢◌, ℕ, ◌+◌, ◌-◌, ◌*◌, ◌/◌, ◌≤◌, true, List, [], ◌∷◌, ◌++◌, length, ℤ, pos, neg_ℤ}
use Rattle.std.specs.Int.{IsInRange}
use Rattle.std.specs.List.{list_all}
use Rattle.std.specs.Char.{is_ascii_digit}
use Rattle.jiff_core.specs.Calendar.{days_from_civil, days_in_month}
use Rattle.moments_spans.specs.declared.civil.CivilDate.{CivilDate}
use Rattle.name_parts.specs.declared.faults.NameFault.{NameFault}
use Rattle.name_parts.specs.declared.faults.NameFault.TheVariants.{Empty, BadByte, OutOfRange}
use Rattle.name_parts.specs.Grammar.{IsFirstBadPlace}
use Rattle.moments_spans.specs.Moments.{two_digits, date_text, moment_at, IsInYears}

-- Of digits the first is worth so many microseconds, and each further one a tenth of the one before
-- it. What is worth less than one microsecond is dropped.
abbrev pub worth_of : ℕ → List ℕ → ℕ
worth_of worth [] = 0
worth_of worth (b ∷ bs) = worth * (b - 48) + worth_of (worth / 10) bs

-- nothing, or a point and one to nine digits; in microseconds
pub data IsDecimals (text : List ℕ) (micros : ℕ) : Type 0 where
  none : text ≡ [] → micros ≡ 0 → IsDecimals text micros
  some : (digits : List ℕ) → list_all is_ascii_digit digits ≡ true → IsInRange 1 9 (length digits)
      → text ≡ 46 ∷ digits → micros ≡ worth_of 100_000 digits → IsDecimals text micros

-- YYYY-MM-DD, a date of the calendar in a year from 1 to 9999; as its day number
pub record IsDateText (text : List ℕ) (day : ℤ) : Type 0 where
  pub date : CivilDate
  pub in_years : IsInRange 1 9999 date.year
  pub in_year : IsInRange 1 12 date.month
  pub in_month : IsInRange 1 (days_in_month (pos date.year) date.month) date.day
  pub spelled : text ≡ date_text date
  pub number : day ≡ days_from_civil (pos date.year) date.month date.day

-- HH:MM, from 00:00 to 23:59; as minutes
pub record IsHourAndMinute (text : List ℕ) (minutes : ℕ) : Type 0 where
  pub hour : ℕ
  pub minute : ℕ
  pub in_day : hour ≤ 23
  pub in_hour : minute ≤ 59
  pub spelled : text ≡ two_digits hour ++ 58 ∷ two_digits minute
  pub number : minutes ≡ hour * 60 + minute

-- HH:MM:SS, and decimals; as microseconds
pub record IsClockText (text : List ℕ) (micros : ℕ) : Type 0 where
  pub minutes_text : List ℕ
  pub minutes : ℕ
  pub hour_and_minute : IsHourAndMinute minutes_text minutes
  pub second : ℕ
  pub in_minute : second ≤ 59
  pub decimals_text : List ℕ
  pub fraction : ℕ
  pub decimals : IsDecimals decimals_text fraction
  pub spelled : text ≡ minutes_text ++ 58 ∷ (two_digits second ++ decimals_text)
  pub number : micros ≡ (minutes * 60 + second) * 1_000_000 + fraction

-- `Z`, or a sign and HH:MM; as how many minutes the clock is before UTC
pub data IsZone (text : List ℕ) (minutes : ℤ) : Type 0 where
  utc : text ≡ 90 ∷ [] → minutes ≡ pos 0 → IsZone text minutes
  before : (rest : List ℕ) (n : ℕ) → IsHourAndMinute rest n → text ≡ 43 ∷ rest → minutes ≡ pos n
      → IsZone text minutes
  behind : (rest : List ℕ) (n : ℕ) → IsHourAndMinute rest n → text ≡ 45 ∷ rest
      → minutes ≡ neg_ℤ (pos n) → IsZone text minutes

-- a date, `T`, a time of day and a zone; as microseconds since 1970-01-01T00:00:00Z
pub record IsMomentText (text : List ℕ) (micros : ℤ) : Type 0 where
  pub date_text_is : List ℕ
  pub day : ℤ
  pub date : IsDateText date_text_is day
  pub clock_text_is : List ℕ
  pub clock_micros : ℕ
  pub clock : IsClockText clock_text_is clock_micros
  pub zone_text : List ℕ
  pub offset : ℤ
  pub zone : IsZone zone_text offset
  pub spelled : text ≡ date_text_is ++ 84 ∷ (clock_text_is ++ zone_text)
  pub number : micros ≡ moment_at day clock_micros offset

-- The text says some moment, whatever its year in UTC.
pub record SaysMoment (text : List ℕ) : Type 0 where
  pub micros : ℤ
  pub said : IsMomentText text micros

-- What is wrong with a text: it is empty, or breaks the grammar first here, or says a moment
-- outside the years 1 to 9999 in UTC.
pub data IsMomentFault (text : List ℕ) (fault : NameFault) : Type 0 where
  empty : text ≡ [] → fault ≡ Empty → IsMomentFault text fault
  bad : text ≢ [] → (place : ℕ) → IsFirstBadPlace SaysMoment text place → fault ≡ BadByte place
      → IsMomentFault text fault
  outside : (micros : ℤ) → IsMomentText text micros → ¬ IsInYears micros → fault ≡ OutOfRange
      → IsMomentFault text fault
