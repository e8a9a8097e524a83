-- A moment that is printed is read as itself.
use Rattle.std.proofs.Common.{◌≡◌, ℕ, ◌+◌, ◌*◌, ◌/◌, ◌%◌, ◌==◌, ◌≤◌, ◌<◌, true, false, List, [], ◌∷◌, ◌++◌, length, Ok, ℤ, pos, neg_ℤ, int_le, unsigned_abs, refl, ap, ◌∙◌, arith}
use Rattle.std.proofs.lemmas.Int.{ints}
use Rattle.std.specs.Int.{int_div_euclid, int_rem_euclid}
use Rattle.jiff_core.specs.Calendar.{days_in_month, IsBetween}
use Rattle.jiff_core.proofs.SignedLemmas.{signed_arith}
use Rattle.jiff_core.proofs.CalendarLemmas.{days_in_month_bounds}
use Rattle.moments_spans.specs.Moments.{moment_text, two_digits, decimals, date_text, clock_text, text_of_day_and_clock, IsInYears, least_moment, greatest_moment, moment_at}
use Rattle.moments_spans.specs.MomentReading.{day_from, minutes_from, clock_from, zone_from, moment_from, moment_judged, moment_of}
use Rattle.moments_spans.proofs.DigitLaws.{bind, two_read, year_read, byte_read, decimals_read, is_positive}
use Rattle.moments_spans.proofs.CalendarLaws.{IsDateOf, date_exists, civil_date-of, is_nonnegative}

-- a date
date_read : (day : ℤ) (y m d : ℕ) (rest : List ℕ) → IsDateOf day y m d → day_from (date_text (record { year = y; month = m; day = d }) ++ rest) ≡ Ok (day, rest)
unfolding day_from
date_read day y m d rest h =
    let long = days_in_month_bounds (pos y) m in
    bind _ _ _ (year_read y (45 ∷ (two_digits m ++ 45 ∷ (two_digits d ++ rest))) h.in_years.0 h.in_years.1)
    ∙ (bind _ _ _ (byte_read 45 (two_digits m ++ 45 ∷ (two_digits d ++ rest)))
    ∙ (bind _ _ _ (two_read 1 12 m (45 ∷ (two_digits d ++ rest)) h.date.1.0 h.date.1.1 (omega (arith, h.date.1.1)))
    ∙ (bind _ _ _ (byte_read 45 (two_digits d ++ rest))
    ∙ (bind _ _ _ (two_read 1 (days_in_month (pos y) m) d rest h.date.2.0 h.date.2.1 (omega (arith, h.date.2.1, long)))
    ∙ ap (λ (v : ℤ). Ok (v, rest)) h.day))))

minutes_read : (hours minutes : ℕ) (rest : List ℕ) → hours ≤ 23 → minutes ≤ 59 → minutes_from (two_digits hours ++ 58 ∷ (two_digits minutes ++ rest)) ≡ Ok (hours * 60 + minutes, rest)
unfolding minutes_from
minutes_read hours minutes rest day hour =
    bind _ _ _ (two_read 0 23 hours (58 ∷ (two_digits minutes ++ rest)) (omega arith) day (omega (arith, day)))
    ∙ (bind _ _ _ (byte_read 58 (two_digits minutes ++ rest))
    ∙ bind _ _ _ (two_read 0 59 minutes rest (omega arith) hour (omega (arith, hour))))

-- a time of day, in front of the `Z`
clock_read : (clock : ℕ) (rest : List ℕ) → clock < 86_400_000_000 → clock_from (clock_text clock ++ 90 ∷ rest) ≡ Ok (clock, 90 ∷ rest)
unfolding clock_from
clock_read clock rest within =
    let hours = clock / 3_600_000_000 in
    let minutes = clock / 60_000_000 % 60 in
    let seconds = clock / 1_000_000 % 60 in
    let micros = clock % 1_000_000 in
    let behind : List ℕ = decimals micros ++ 90 ∷ rest in
    let same : ((hours * 60 + minutes) * 60 + seconds) * 1_000_000 + micros ≡ clock = omega arith in
    bind _ _ _ (minutes_read hours minutes (58 ∷ (two_digits seconds ++ behind)) (omega arith) (omega arith))
    ∙ (bind _ _ _ (byte_read 58 (two_digits seconds ++ behind))
    ∙ (bind _ _ _ (two_read 0 59 seconds behind (omega arith) (omega arith) (omega arith))
    ∙ (bind _ _ _ (decimals_read micros 90 rest (omega arith) (refl, refl))
    ∙ ap (λ (v : ℕ). Ok (v, 90 ∷ rest)) same)))

-- `Z`
utc_read : (rest : List ℕ) → zone_from (90 ∷ rest) ≡ Ok (pos 0, rest)
unfolding zone_from
utc_read rest = refl

day_and_clock_read : (day : ℤ) (clock : ℕ) → IsBetween (neg_ℤ (pos 719_162)) (pos 2_932_896) day → clock < 86_400_000_000 → moment_from (text_of_day_and_clock day clock) ≡ Ok (moment_at day clock (pos 0))
unfolding moment_from text_of_day_and_clock
day_and_clock_read day clock days within =
    let found = date_exists day days in
    let y = found.0 in
    let m = found.1.0 in
    let d = found.1.1.0 in
    let is = found.1.1.1 in
    let behind : List ℕ = clock_text clock ++ 90 ∷ [] in
    rw (civil_date-of day y m d is)
    (bind _ _ _ (date_read day y m d (84 ∷ behind) is)
    ∙ (bind _ _ _ (byte_read 84 behind)
    ∙ (bind _ _ _ (clock_read clock [] within)
    ∙ bind _ _ _ (utc_read []))))

judged : (len : ℕ) (micros : ℤ) → IsInYears micros → moment_judged len (Ok micros) ≡ Ok micros
unfolding moment_judged
judged len micros h =
    let late : int_le least_moment micros ≡ true = grind (arith, ints, h.0) in
    let early : int_le micros greatest_moment ≡ true = grind (arith, ints, h.1) in
    rw (late, early) refl

some_bytes : (day : ℤ) (clock : ℕ) → (length (text_of_day_and_clock day clock) == 0) ≡ false
unfolding text_of_day_and_clock
some_bytes day clock = is_positive _ (omega arith)

pub printed_moment_is_read : (micros : ℤ) → IsInYears micros → moment_of (moment_text micros) ≡ Ok micros
printed_moment_is_read micros h =
    let day = int_div_euclid micros (pos 86_400_000_000) in
    let left = int_rem_euclid micros (pos 86_400_000_000) in
    let clock = unsigned_abs left in
    let days : IsBetween (neg_ℤ (pos 719_162)) (pos 2_932_896) day = (omega (arith, signed_arith, h.0), omega (arith, signed_arith, h.1)) in
    let is : left ≡ pos clock = is_nonnegative left (omega (arith, signed_arith)) in
    let within : clock < 86_400_000_000 = omega (arith, signed_arith, is) in
    let same : moment_at day clock (pos 0) ≡ micros = omega (arith, signed_arith, is) in
    rw (some_bytes day clock, day_and_clock_read day clock days within, same) (judged _ micros h)
