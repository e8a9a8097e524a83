-- Laws of texts: one text says one value or has one fault, and what is printed says the value that
-- was printed.
use Rattle.std.specs.Prelude.{◌≡◌, ◌≢◌, ◌↔◌, ℕ, ◌≤◌, ◌<◌, ◌%◌, ℤ, List, [], length}
use Rattle.name_parts.specs.declared.faults.NameFault.{NameFault}
use Rattle.moments_spans.specs.Moments.{decimals, moment_text, IsInYears}
use Rattle.moments_spans.specs.MomentGrammar.{IsDecimals, IsMomentFault, IsMomentText}
use Rattle.moments_spans.specs.Spans.{most_span, span_text}
use Rattle.moments_spans.specs.SpanGrammar.{IsSpanFault, IsSpanText}

-- One text says at most one moment.
abbrev pub OneMomentSaid : Type 0
OneMomentSaid =
    (text : List ℕ) (micros other : ℤ) → IsMomentText text micros → IsMomentText text other
    → micros ≡ other

-- One text says at most one span.
abbrev pub OneSpanSaid : Type 0
OneSpanSaid =
    (text : List ℕ) (micros other : ℕ) → IsSpanText text micros → IsSpanText text other
    → micros ≡ other

-- Every moment that is printed is said by its text.
abbrev pub PrintedMomentIsSaid : Type 0
PrintedMomentIsSaid = (micros : ℤ) → IsInYears micros → IsMomentText (moment_text micros) micros

-- Every span that is printed is said by its text.
abbrev pub PrintedSpanIsSaid : Type 0
PrintedSpanIsSaid = (micros : ℕ) → micros ≤ most_span → IsSpanText (span_text micros) micros

-- A text that says a moment of the years 1 to 9999 has no fault, and so is read.
abbrev pub SaidMomentHasNoFault : Type 0
SaidMomentHasNoFault =
    (text : List ℕ) (micros : ℤ) (fault : NameFault) → IsMomentText text micros → IsInYears micros
    → ¬ IsMomentFault text fault

-- A text that says a span that isn't too long has no fault, and so is read.
abbrev pub SaidSpanHasNoFault : Type 0
SaidSpanHasNoFault =
    (text : List ℕ) (micros : ℕ) (fault : NameFault) → IsSpanText text micros → micros ≤ most_span
    → ¬ IsSpanFault text fault

-- A text has at most one fault as a moment.
abbrev pub OneMomentFault : Type 0
OneMomentFault =
    (text : List ℕ) (fault other : NameFault) → IsMomentFault text fault → IsMomentFault text other
    → fault ≡ other

-- A text has at most one fault as a span.
abbrev pub OneSpanFault : Type 0
OneSpanFault =
    (text : List ℕ) (fault other : NameFault) → IsSpanFault text fault → IsSpanFault text other
    → fault ≡ other

-- No decimals are printed exactly where there are no microseconds. A point and three digits are
-- printed exactly where there are some, and they are whole milliseconds; a point and six digits
-- exactly where they are not.
abbrev pub DecimalsAreFewest : Type 0
DecimalsAreFewest = (micros : ℕ) → micros < 1_000_000
    → ((decimals micros ≡ []) ↔ (micros ≡ 0))
    × ((length (decimals micros) ≡ 4) ↔ ((micros ≢ 0) × (micros % 1000 ≡ 0)))
    × ((length (decimals micros) ≡ 7) ↔ (micros % 1000 ≢ 0))

-- Decimals that are printed say the microseconds that were printed.
abbrev pub PrintedDecimalsAreSaid : Type 0
PrintedDecimalsAreSaid = (micros : ℕ) → micros < 1_000_000 → IsDecimals (decimals micros) micros
