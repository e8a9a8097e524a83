-- Each day of the years 1 to 9999 is the day of its date.
use Rattle.std.proofs.Common.{◌≡◌, ℕ, zero, suc, ◌+◌, ◌-◌, ◌<◌, ◌≤◌, inl, inr, ℤ, pos, negsuc, neg_ℤ, ◌+ℤ◌, ◌≤ℤ◌, refl, sym, ap, ◌∙◌, arith, add-zero, zero-add, unsigned_abs}
use Rattle.std.specs.Int.{IsInRange}
use Rattle.std.proofs.lemmas.Bool.{cases_lt}
use Rattle.jiff_core.specs.Calendar.{days_from_civil, day_of_year, days_in_month, days_of_months, IsCivilDate, IsBetween}
use Rattle.jiff_core.proofs.SignedLemmas.{signed_arith}
use Rattle.jiff_core.proofs.CalendarLemmas.{days_of_months_all, day_count-end}
use Rattle.moments_spans.specs.Civil.{civil_date}
use Rattle.moments_spans.proofs.CivilLemmas.{total, year_days, years_total, months_total, days_after, civil_date-is}

-- a day lies in one of so many pieces, behind k whole ones
pub in_piece : (f : ℕ → ℕ) (left n days : ℕ) → days < total f n (suc left) → (k : ℕ) × ((r : ℕ) × ((k ≤ left) × (r < f (n + k)) × (days ≡ total f n k + r)))
in_piece f zero n days few =
    let within : days < f (n + 0) = rw (add-zero n) (omega (arith, few)) in
    (0, (days, (omega arith, within, sym (zero-add days))))
in_piece f (suc left) n days few =
    elim (cases_lt days (f n)) [
      | inl here ↦ (0, (days, (omega arith, rw (add-zero n) here, sym (zero-add days))))
      | inr past ↦
          let rest = in_piece f left (suc n) (days - f n) (omega (arith, few, past)) in
          let k = rest.0 in
          let r = rest.1.0 in
          let next : n + suc k ≡ suc n + k = omega arith in
          let within : r < f (n + suc k) = rw next (rest.1.1.1) in
          (suc k, (r, (omega (arith, rest.1.1.0), within, omega (arith, past, rest.1.1.2))))
    ]

-- the parts of the date of a day
pub record IsDateOf (number : ℤ) (y m d : ℕ) : Type 0 where
  pub in_years : IsInRange 1 9999 y
  pub date : IsCivilDate (pos y) m d
  pub day : days_from_civil (pos y) m d ≡ number

date_of_place : (day : ℤ) (k r j s : ℕ) → k ≤ 9998 → j ≤ 11 → s < days_in_month (pos (1 + k)) (1 + j) → r ≡ days_of_months (pos (1 + k)) j + s → day +ℤ pos 719_162 ≡ pos (total year_days 1 k + r) → IsDateOf day (1 + k) (1 + j) (s + 1)
date_of_place day k r j s years months within place days =
    let date : IsCivilDate (pos (1 + k)) (1 + j) (s + 1) = ((omega (arith, signed_arith), omega (arith, signed_arith)), (omega arith, omega arith), (omega arith, omega arith)) in
    let less : 1 + j - 1 ≡ j = omega arith in
    let in_year : day_of_year (pos (1 + k)) (1 + j) (s + 1) - 1 ≡ r = rw less (omega (arith, place)) in
    let found = rw in_year at (days_after (1 + k) (1 + j) (s + 1) k refl date) in
    record { in_years = (omega arith, omega arith); date = date; day = omega (arith, signed_arith, found, days) }

pub is_nonnegative : (z : ℤ) → pos 0 ≤ℤ z → z ≡ pos (unsigned_abs z)
is_nonnegative (pos n) h = refl
is_nonnegative (negsuc n) h = absurd (omega (arith, signed_arith, h))

-- such a date there is
pub date_exists : (day : ℤ) → IsBetween (neg_ℤ (pos 719_162)) (pos 2_932_896) day → (y : ℕ) × ((m : ℕ) × ((d : ℕ) × IsDateOf day y m d))
date_exists day within =
    let n = unsigned_abs (day +ℤ pos 719_162) in
    let is : day +ℤ pos 719_162 ≡ pos n = is_nonnegative _ (omega (arith, signed_arith, within.0)) in
    let all = years_total 9999 in
    let few : n < total year_days 1 9999 = omega (arith, signed_arith, within.1, all, day_count-end, is) in
    let year = in_piece year_days 9998 1 n few in
    let k = year.0 in
    let r = year.1.0 in
    let y : ℤ = pos (1 + k) in
    let short : r < total (days_in_month y) 1 12 = omega (arith, year.1.1.1, days_of_months_all y, months_total y 12) in
    let month = in_piece (days_in_month y) 11 1 r short in
    let j = month.0 in
    let s = month.1.0 in
    let place : r ≡ days_of_months y j + s = omega (arith, month.1.1.2, months_total y j) in
    let days : day +ℤ pos 719_162 ≡ pos (total year_days 1 k + r) = is ∙ ap pos year.1.1.2 in
    (1 + k, (1 + j, (s + 1, date_of_place day k r j s year.1.1.0 month.1.1.0 month.1.1.1 place days)))

-- the date of the day
pub civil_date-of : (day : ℤ) (y m d : ℕ) → IsDateOf day y m d → civil_date day ≡ record { year = y; month = m; day = d }
civil_date-of day y m d h = sym (ap civil_date h.day) ∙ civil_date-is y m d h.in_years h.date
