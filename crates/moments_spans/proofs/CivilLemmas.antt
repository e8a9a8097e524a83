-- The date of a day is the one that the calendar gives that number.
use Rattle.std.proofs.Common.{◌≡◌, ℕ, zero, suc, ◌+◌, ◌-◌, ◌<◌, ◌≤◌, Bool, true, false, ℤ, pos, neg_ℤ, ◌+ℤ◌, ◌≤ℤ◌, unsigned_abs, inl, refl, sym, ap, ◌∙◌, arith, rules, subst, zero-add, add-zero}
use Rattle.std.specs.Int.{IsInRange}
use Rattle.std.proofs.lemmas.Int.{ints, by_lt_z}
use Rattle.std.proofs.lemmas.Bool.{lt-ltb, le-ltb}
use Rattle.jiff_core.specs.Calendar.{days_from_civil, day_count, day_of_year, days_of_months, days_of_years, days_in_year, days_in_month, IsCivilDate}
use Rattle.jiff_core.specs.declared.civil.date.Date.{Date}
use Rattle.jiff_core.specs.Date.{epoch_day}
use Rattle.jiff_core.proofs.SignedLemmas.{signed_arith}
use Rattle.jiff_core.proofs.DateLemmas.{epoch_day-lt}
use Rattle.jiff_core.proofs.CalendarLemmas.{days_from_civil-day_count, day_count-next_year, day_count-day_of_year, day_of_year_bound, days_of_months-zero, days_of_months_more}
use Rattle.moments_spans.specs.declared.civil.CivilDate.{CivilDate}
use Rattle.moments_spans.specs.Civil.{counted_off, year_and_days, month_and_days, date_in_year, civil_date}

-- the days of k pieces from number n on
abbrev pub total : (ℕ → ℕ) → ℕ → ℕ → ℕ
total f n zero = 0
total f n (suc k) = f n + total f (suc n) k

total-last : (f : ℕ → ℕ) (n k : ℕ) → total f n (suc k) ≡ total f n k + f (n + k)
total-last f n zero = let at : n + 0 ≡ n = omega arith in rw at (omega arith)
total-last f n (suc k) = let at : n + suc k ≡ suc n + k = omega arith in rw at (omega (arith, total-last f (suc n) k))

in_this : (f : ℕ → ℕ) (left n days : ℕ) → days < f n → counted_off f (suc left) n days ≡ (n, days)
unfolding counted_off
in_this f left n days here =
    subst (λ (t : Bool). elim t [ true ↦ (n, days) | false ↦ counted_off f left (suc n) (days - f n) ] ≡ (n, days)) (sym (lt-ltb days (f n) here)) refl

in_later : (f : ℕ → ℕ) (left n days : ℕ) → f n ≤ days → counted_off f (suc left) n days ≡ counted_off f left (suc n) (days - f n)
unfolding counted_off
in_later f left n days past =
    subst (λ (t : Bool). elim t [ true ↦ (n, days) | false ↦ counted_off f left (suc n) (days - f n) ] ≡ counted_off f left (suc n) (days - f n)) (sym (le-ltb days (f n) past)) refl

at_last : (f : ℕ → ℕ) (n days : ℕ) → counted_off f zero n days ≡ (n, days)
unfolding counted_off
at_last f n days = refl

-- a day within a piece, behind k whole ones
counted_off-total : (f : ℕ → ℕ) (left n k days : ℕ) → k ≤ left → days < f (n + k) → counted_off f left n (total f n k + days) ≡ (n + k, days)
counted_off-total f zero n zero days few within = rw (zero-add days, add-zero n) (at_last f n days)
counted_off-total f zero n (suc k) days few within = absurd (omega arith)
counted_off-total f (suc left) n zero days few within =
    rw (zero-add days, add-zero n) (in_this f left n days (rw (add-zero n) at within))
counted_off-total f (suc left) n (suc k) days few within =
    let next : n + suc k ≡ suc n + k = omega arith in
    let rest : f n + total f (suc n) k + days - f n ≡ total f (suc n) k + days = omega arith in
    let later = rw next at within in
    rw next (in_later f left n (f n + total f (suc n) k + days) (omega arith) ∙ rw rest (counted_off-total f left (suc n) k days (omega arith) later))

abbrev pub year_days : ℕ → ℕ
year_days y = days_in_year (pos y)

day_count-one : day_count (pos 1) 1 1 ≡ 3_652_791
unfolding day_count days_of_years days_of_months
day_count-one = refl

pub years_total : (k : ℕ) → day_count (pos (1 + k)) 1 1 ≡ 3_652_791 + total year_days 1 k
years_total zero = day_count-one
years_total (suc k) =
    let next = day_count-next_year (pos (1 + k)) (pos (1 + suc k)) (omega (arith, ints)) (omega (arith, ints)) in
    omega (arith, next, years_total k, total-last year_days 1 k)

pub months_total : (y : ℤ) (k : ℕ) → days_of_months y k ≡ total (days_in_month y) 1 k
months_total y zero = days_of_months-zero y
months_total y (suc k) =
    let at : 1 + k ≡ suc k = omega arith in
    let more = days_of_months_more y (suc k) (omega arith) in
    let less : suc k - 1 ≡ k = omega arith in
    let step = rw less at more in
    let last = rw at at (total-last (days_in_month y) 1 k) in
    omega (arith, step, last, months_total y k)

-- how many days from 0001-01-01 on
pub days_after : (y m d k : ℕ) → y ≡ 1 + k → IsCivilDate (pos y) m d → days_from_civil (pos y) m d +ℤ pos 719_162 ≡ pos (total year_days 1 k + (day_of_year (pos y) m d - 1))
days_after y m d k is date =
    let first : day_count (pos y) 1 1 ≡ 3_652_791 + total year_days 1 k = rw is (years_total k) in
    let whole = day_count-day_of_year (pos y) m d date.2.0 in
    let count = days_from_civil-day_count (pos y) m d in
    omega (arith, signed_arith, first, whole, count, date.2.0)

days_before : (y m d k : ℕ) → y ≡ 1 + k → IsCivilDate (pos y) m d → unsigned_abs (days_from_civil (pos y) m d +ℤ pos 719_162) ≡ total year_days 1 k + (day_of_year (pos y) m d - 1)
days_before y m d k is date = ap unsigned_abs (days_after y m d k is date)

year_is : (y m d k : ℕ) → y ≡ 1 + k → k ≤ 9998 → IsCivilDate (pos y) m d → year_and_days (total year_days 1 k + (day_of_year (pos y) m d - 1)) ≡ (y, day_of_year (pos y) m d - 1)
year_is y m d k is few date =
    let bound = day_of_year_bound (pos y) m d date in
    let same : days_in_year (pos y) ≡ year_days (1 + k) = ap year_days is in
    let within : day_of_year (pos y) m d - 1 < year_days (1 + k) = omega (arith, bound, same, date.2.0) in
    counted_off-total year_days 9998 1 k (day_of_year (pos y) m d - 1) few within ∙ ap (λ n. (n, day_of_year (pos y) m d - 1)) (sym is)

month_is : (y m d k : ℕ) → m ≡ 1 + k → IsCivilDate (pos y) m d → month_and_days y (day_of_year (pos y) m d - 1) ≡ (m, d - 1)
month_is y m d k is date =
    let less : m - 1 ≡ k = omega arith in
    let months : days_of_months (pos y) (m - 1) ≡ total (days_in_month (pos y)) 1 k = rw less (months_total (pos y) k) in
    let place : day_of_year (pos y) m d - 1 ≡ total (days_in_month (pos y)) 1 k + (d - 1) = omega (arith, months, date.2.0) in
    let same : days_in_month (pos y) m ≡ days_in_month (pos y) (1 + k) = ap (days_in_month (pos y)) is in
    let within : d - 1 < days_in_month (pos y) (1 + k) = omega (arith, same, date.2.0, date.2.1) in
    ap (month_and_days y) place ∙ counted_off-total (days_in_month (pos y)) 11 1 k (d - 1) (omega (arith, date.1.1)) within ∙ ap (λ n. (n, d - 1)) (sym is)

abbrev record_of : ℕ → ℕ × ℕ → CivilDate
record_of y p = record { year = y; month = p.0; day = p.1 + 1 }

pub civil_date-is : (y m d : ℕ) → IsInRange 1 9999 y → IsCivilDate (pos y) m d → civil_date (days_from_civil (pos y) m d) ≡ record { year = y; month = m; day = d }
unfolding civil_date
civil_date-is y m d in_years date =
    let year : y ≡ 1 + (y - 1) = omega (arith, in_years.0) in
    let month : m ≡ 1 + (m - 1) = omega (arith, date.1.0) in
    let counted = ap year_and_days (days_before y m d (y - 1) year date) ∙ year_is y m d (y - 1) year (omega (arith, in_years.1)) date in
    let last : d - 1 + 1 ≡ d = omega (arith, date.2.0) in
    let named : (p : ℕ × ℕ) → p ≡ (m, d - 1) → record_of y p ≡ record { year = y; month = m; day = d } = λ p e. rw (e, last) refl in
    ap date_in_year counted ∙ named (month_and_days y (day_of_year (pos y) m d - 1)) (month_is y m d (m - 1) month date)

year_one : Date
year_one = record { year = pos 1; month = 1; day = 1; year_in = search rules; month_in = search rules; day_in = search rules }

first_day : days_from_civil (pos 1) 1 1 ≡ neg_ℤ (pos 719_162)
unfolding days_from_civil day_count days_of_years days_of_months
first_day = refl

-- a date on or after 0001-01-01 has a positive year
pub year_positive : (d : Date) → neg_ℤ (pos 719_162) ≤ℤ epoch_day d → pos 1 ≤ℤ d.year
unfolding year_one
year_positive d late =
    by_lt_z d.year (pos 1) (λ lt. absurd (omega (arith, signed_arith, epoch_day-lt d year_one (inl lt), first_day))) (λ ge. ge)
