-- The one text of a moment.
use Rattle.std.specs.Prelude.{ℕ, ◌+◌, ◌/◌, ◌%◌, ◌==◌, if◌then◌else◌, List, [], ◌∷◌, ◌++◌, ℤ, pos, neg_ℤ, ◌+ℤ◌, ◌-ℤ◌, ◌*ℤ◌, ◌≤ℤ◌, unsigned_abs}
use Rattle.std.specs.Int.{int_div_euclid, int_rem_euclid}
use Rattle.moments_spans.specs.declared.civil.CivilDate.{CivilDate}
use Rattle.moments_spans.specs.Civil.{civil_date}

-- the number in two, in three and in four decimal digits
abbrev pub two_digits : ℕ → List ℕ
two_digits n = (48 + n / 10) ∷ (48 + n % 10) ∷ []

abbrev pub three_digits : ℕ → List ℕ
three_digits n = (48 + n / 100) ∷ two_digits (n % 100)

abbrev pub four_digits : ℕ → List ℕ
four_digits n = two_digits (n / 100) ++ two_digits (n % 100)

-- of so many microseconds no decimals, three or six, the fewest that are exact
abbrev pub decimals : ℕ → List ℕ
decimals micros =
    if micros == 0 then []
    else (46 ∷ three_digits (micros / 1000))
    ++ (if micros % 1000 == 0 then [] else three_digits (micros % 1000))

-- YYYY-MM-DD
abbrev pub date_text : CivilDate → List ℕ
date_text d = four_digits d.year ++ 45 ∷ (two_digits d.month ++ 45 ∷ two_digits d.day)

-- HH:MM:SS and the decimals, of so many microseconds after midnight
abbrev pub clock_text : ℕ → List ℕ
clock_text micros =
    two_digits (micros / 3_600_000_000)
    ++ 58 ∷ (two_digits (micros / 60_000_000 % 60) ++ 58
    ∷ (two_digits (micros / 1_000_000 % 60) ++ decimals (micros % 1_000_000)))

-- the text of a day by its number, and of so many microseconds after its midnight, in UTC
unfoldable pub text_of_day_and_clock : ℤ → ℕ → List ℕ
text_of_day_and_clock day clock = date_text (civil_date day) ++ 84 ∷ (clock_text clock ++ 90 ∷ [])

-- The text of a moment in UTC, of its microseconds since 1970-01-01T00:00:00Z. A day has
-- 86,400,000,000 of them.
abbrev pub moment_text : ℤ → List ℕ
moment_text micros =
    text_of_day_and_clock (int_div_euclid micros (pos 86_400_000_000))
    (unsigned_abs (int_rem_euclid micros (pos 86_400_000_000)))

-- a day, a time of day and how many minutes the clock is before UTC, as microseconds since
-- 1970-01-01T00:00:00Z
abbrev pub moment_at : ℤ → ℕ → ℤ → ℤ
moment_at day clock zone = day *ℤ pos 86_400_000_000 +ℤ pos clock -ℤ zone *ℤ pos 60_000_000

-- 0001-01-01T00:00:00Z, and the last microsecond of the year 9999
abbrev pub least_moment : ℤ
least_moment = neg_ℤ (pos 62_135_596_800_000_000)

abbrev pub greatest_moment : ℤ
greatest_moment = pos 253_402_300_799_999_999

-- the moment is of a year from 1 to 9999
abbrev pub IsInYears : ℤ → Type 0
IsInYears micros = (least_moment ≤ℤ micros) × (micros ≤ℤ greatest_moment)
