use Rattle.std.proofs.Common.{◌≡◌, ℤ, pos, neg_ℤ, ◌≤ℤ◌, sym, ap, subst, ◌∙◌, arith}
use Rattle.std.proofs.lemmas.Int.{ints}
use Rattle.jiff_core.specs.Calendar.{days_from_civil, IsCivilDate}
use Rattle.jiff_core.specs.Date.{epoch_day}
use Rattle.jiff_core.proofs.DateLemmas.{civil}
use Rattle.moments_spans.specs.Civil.{civil_date}
use Rattle.moments_spans.proofs.CivilLemmas.{civil_date-is, year_positive}
use Rattle.moments_spans.proofs.civil.date_of.Goals as goal

pub year_of-requires : goal.year_of-requires
year_of-requires c =
    let late : neg_ℤ (pos 719_162) ≤ℤ epoch_day c.in-Ok.date = omega (arith, ints, c.in-Ok.ensures.value, c.requires.0) in
    year_positive c.in-Ok.date late

pub returns-clause-date : goal.returns-clause-date
returns-clause-date c =
    let year = sym c.year_of.ensures.value in
    let m = c.in-Ok.date.month in
    let d = c.in-Ok.date.day in
    let value : epoch_day c.in-Ok.date ≡ c.args.day = omega (arith, ints, c.in-Ok.ensures.value, c.ranges.day) in
    let is : IsCivilDate (pos c.year_of.result) m d = subst (λ (y : ℤ). IsCivilDate y m d) year (civil c.in-Ok.date) in
    sym (civil_date-is c.year_of.result m d c.year_of.ensures.range is) ∙ ap (λ (y : ℤ). civil_date (days_from_civil y m d)) (sym year) ∙ ap civil_date value
