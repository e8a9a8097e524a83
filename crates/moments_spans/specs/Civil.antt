-- The date of a day, and the one text of a moment.
use Rattle.std.specs.Prelude.{ℕ, zero, suc, ◌+◌, ◌-◌, true, false, nat_lt, ℤ, pos, ◌+ℤ◌, unsigned_abs}
use Rattle.jiff_core.specs.Calendar.{days_in_year, days_in_month}
use Rattle.moments_spans.specs.declared.civil.CivilDate.{CivilDate}

-- Pieces of days follow one another, the first of them number n, and the piece number k has
-- `length_of k` days. Of a day so many days after the first day of piece n: the number of its
-- piece, and how many days of that piece stand before it. At most `left` pieces are passed over.
unfoldable pub counted_off : (ℕ → ℕ) → ℕ → ℕ → ℕ → ℕ × ℕ
counted_off length_of zero n days = (n, days)
counted_off length_of (suc left) n days =
    elim (nat_lt days (length_of n))
    [ true ↦ (n, days) | false ↦ counted_off length_of left (suc n) (days - length_of n) ]

-- from 1 January of the year 1 whole years are counted off, and then whole months of the year
abbrev pub year_and_days : ℕ → ℕ × ℕ
year_and_days days = counted_off (λ y. days_in_year (pos y)) 9998 1 days

abbrev pub month_and_days : ℕ → ℕ → ℕ × ℕ
month_and_days year days = counted_off (λ m. days_in_month (pos year) m) 11 1 days

abbrev pub date_in_year : ℕ × ℕ → CivilDate
date_in_year y =
    record { year = y.0; month = (month_and_days y.0 y.1).0; day = (month_and_days y.0 y.1).1 + 1 }

-- The date of a day from 0001-01-01 on, where day 0 is 1970-01-01, which comes 719,162 days after
-- it.
unfoldable pub civil_date : ℤ → CivilDate
civil_date day = date_in_year (year_and_days (unsigned_abs (day +ℤ pos 719_162)))
