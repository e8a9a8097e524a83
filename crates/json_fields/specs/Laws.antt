-- Laws of the faults of moments and spans: they are those of the grammars.
use Rattle.std.specs.Prelude.{◌≡◌, ◌↔◌, ◌≤◌, ℕ, ℤ, List, Some, None}
use Rattle.names_realms.specs.NameParts.declared.faults.NameFault.{NameFault}
use Rattle.names_realms.specs.MomentsSpans.Moments.{IsInYears}
use Rattle.names_realms.specs.MomentsSpans.MomentGrammar.{IsMomentText, IsMomentFault}
use Rattle.names_realms.specs.MomentsSpans.Spans.{most_span}
use Rattle.names_realms.specs.MomentsSpans.SpanGrammar.{IsSpanText, IsSpanFault}
use Rattle.json_fields.specs.Texts.{moment_fault, span_fault}

-- The fault of a moment's text is the one that its grammar says.
abbrev pub MomentFaultIsOfGrammar : Type 0
MomentFaultIsOfGrammar = (text : List ℕ) (f : NameFault)
    → (moment_fault text ≡ Some f) ↔ IsMomentFault text f

-- It has none exactly where it says a moment of the years 1 to 9999.
abbrev pub MomentWithoutFault : Type 0
MomentWithoutFault = (text : List ℕ)
    → (moment_fault text ≡ None) ↔ ((micros : ℤ) × IsMomentText text micros × IsInYears micros)

-- The fault of a span's text is the one that its grammar says.
abbrev pub SpanFaultIsOfGrammar : Type 0
SpanFaultIsOfGrammar = (text : List ℕ) (f : NameFault)
    → (span_fault text ≡ Some f) ↔ IsSpanFault text f

-- It has none exactly where it says a span that isn't too long.
abbrev pub SpanWithoutFault : Type 0
SpanWithoutFault = (text : List ℕ)
    → (span_fault text ≡ None) ↔ ((micros : ℕ) × IsSpanText text micros × (micros ≤ most_span))
