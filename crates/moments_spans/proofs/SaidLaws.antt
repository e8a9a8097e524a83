-- One text says one value, and what is printed says what was printed.
use Rattle.moments_spans.specs.Moments.{decimals, moment_text, IsInYears}
use Rattle.moments_spans.specs.MomentReading.{moment_from}
use Rattle.moments_spans.specs.Spans.{span_text}
use Rattle.moments_spans.specs.SpanReading.{span_from}
use Rattle.std.proofs.Common.{◌≡◌, ℕ, ℤ, ◌+◌, ◌≤◌, ◌<◌, List, [], ◌∷◌, ◌++◌, length, take, drop, refl, sym, ap, subst, ◌∙◌, arith, append_assoc, length-append, take-append-drop}
use Rattle.std.proofs.lemmas.List.{take-take, append_cancel_right}
use Rattle.name_parts.specs.Grammar.{GoesOn, IsFirstBadPlace}
use Rattle.name_parts.specs.declared.faults.NameFault.TheVariants.{BadByte}
use Rattle.moments_spans.specs.MomentGrammar.{IsDecimals, IsMomentText, SaysMoment, empty, bad, outside}
use Rattle.moments_spans.specs.SpanGrammar.{IsSpanText, SaysSpan, empty as no_span, bad as bad_span, outside as long_span}
use Rattle.moments_spans.specs.Laws.{OneMomentFault, OneMomentSaid, OneSpanFault, OneSpanSaid, PrintedDecimalsAreSaid, PrintedMomentIsSaid, PrintedSpanIsSaid, SaidMomentHasNoFault, SaidSpanHasNoFault}
use Rattle.moments_spans.proofs.DigitLaws.{decimals_read}
use Rattle.moments_spans.proofs.ClockReaders.{decimals_reads}
use Rattle.moments_spans.proofs.MomentLaws.{printed_moment_is_read}
use Rattle.moments_spans.proofs.SpanLaws.{printed_span_is_read}
use Rattle.moments_spans.proofs.ReaderLaws.{same_ok}
use Rattle.moments_spans.proofs.MomentTexts.{said_of_text as moment_of_text, read_of_text as moment_is_read}
use Rattle.moments_spans.proofs.SpanTexts.{said_of_text as span_of_text, read_of_text as span_is_read}

pub one_moment_said : OneMomentSaid
one_moment_said text micros other is also = same_ok micros other (moment_from text) (moment_is_read text micros is) (moment_is_read text other also)

pub one_span_said : OneSpanSaid
one_span_said text micros other is also = same_ok micros other (span_from text) (span_is_read text micros is) (span_is_read text other also)

pub printed_moment_is_said : PrintedMomentIsSaid
printed_moment_is_said micros within = moment_of_text (moment_text micros) micros (printed_moment_is_read micros within)

pub printed_span_is_said : PrintedSpanIsSaid
printed_span_is_said micros few = span_of_text (span_text micros) micros (printed_span_is_read micros few)

-- the first place that breaks a grammar is one

shorter : (Is : List ℕ → Type 0) (text : List ℕ) (n most : ℕ) → n ≤ most → GoesOn Is (take most text) → GoesOn Is (take n text)
shorter Is text n most few on =
    let parted : take most text ≡ take n text ++ drop n (take most text) = sym (take-append-drop n (take most text)) ∙ ap (λ t. t ++ drop n (take most text)) (take-take n most text few) in
    record {
      rest = drop n (take most text) ++ on.rest;
      whole = subst Is (ap (λ t. t ++ on.rest) parted ∙ append_assoc (take n text) (drop n (take most text)) on.rest) on.whole;
    }

no_later : (Is : List ℕ → Type 0) (text : List ℕ) (place later : ℕ) → IsFirstBadPlace Is text place → IsFirstBadPlace Is text later → ¬ (place < later)
no_later Is text place later is also less = is.here (omega (arith, less, also.within)) (shorter Is text (place + 1) later (omega (arith, less)) also.before)

one_place : (Is : List ℕ → Type 0) (text : List ℕ) (place other : ℕ) → IsFirstBadPlace Is text place → IsFirstBadPlace Is text other → place ≡ other
one_place Is text place other is also =
    let up = no_later Is text place other is also in
    let down = no_later Is text other place also is in
    omega (arith, up, down)

-- moments

says_some : (text : List ℕ) (micros : ℤ) → IsMomentText text micros → ¬ (text ≡ [])
says_some text micros is none = absurd (omega (arith, ap length (sym none ∙ is.spelled), length-append is.date_text_is (84 ∷ (is.clock_text_is ++ is.zone_text))))

pub said_moment_has_no_fault : SaidMomentHasNoFault
said_moment_has_no_fault text micros fault is within (empty none f) = says_some text micros is none
said_moment_has_no_fault text micros fault is within (bad some place first f) = first.itself (record { micros = micros; said = is })
said_moment_has_no_fault text micros fault is within (outside other also out f) = out (subst IsInYears (one_moment_said text micros other is also) within)

pub one_moment_fault : OneMomentFault
one_moment_fault text fault other (empty none f) (empty also g) = f ∙ sym g
one_moment_fault text fault other (empty none f) (bad some place first g) = absurd (some none)
one_moment_fault text fault other (empty none f) (outside micros is out g) = absurd (says_some text micros is none)
one_moment_fault text fault other (bad some place first f) (empty none g) = absurd (some none)
one_moment_fault text fault other (bad some place first f) (bad some' place' first' g) = f ∙ ap BadByte (one_place SaysMoment text place place' first first') ∙ sym g
one_moment_fault text fault other (bad some place first f) (outside micros is out g) = absurd (first.itself (record { micros = micros; said = is }))
one_moment_fault text fault other (outside micros is out f) (empty none g) = absurd (says_some text micros is none)
one_moment_fault text fault other (outside micros is out f) (bad some place first g) = absurd (first.itself (record { micros = micros; said = is }))
one_moment_fault text fault other (outside micros is out f) (outside micros' is' out' g) = f ∙ sym g

-- spans

tells_some : (text : List ℕ) (micros : ℕ) → IsSpanText text micros → ¬ (text ≡ [])
tells_some text micros is none = absurd (omega (arith, ap length (sym none ∙ is.spelled), length-append is.digits (is.decimals_text ++ 115 ∷ []), is.count.0))

pub said_span_has_no_fault : SaidSpanHasNoFault
said_span_has_no_fault text micros fault is few (no_span none f) = tells_some text micros is none
said_span_has_no_fault text micros fault is few (bad_span some place first f) = first.itself (record { micros = micros; said = is })
said_span_has_no_fault text micros fault is few (long_span other also long f) = absurd (omega (arith, one_span_said text micros other is also, few, long))

pub one_span_fault : OneSpanFault
one_span_fault text fault other (no_span none f) (no_span also g) = f ∙ sym g
one_span_fault text fault other (no_span none f) (bad_span some place first g) = absurd (some none)
one_span_fault text fault other (no_span none f) (long_span micros is out g) = absurd (tells_some text micros is none)
one_span_fault text fault other (bad_span some place first f) (no_span none g) = absurd (some none)
one_span_fault text fault other (bad_span some place first f) (bad_span some' place' first' g) = f ∙ ap BadByte (one_place SaysSpan text place place' first first') ∙ sym g
one_span_fault text fault other (bad_span some place first f) (long_span micros is out g) = absurd (first.itself (record { micros = micros; said = is }))
one_span_fault text fault other (long_span micros is out f) (no_span none g) = absurd (tells_some text micros is none)
one_span_fault text fault other (long_span micros is out f) (bad_span some place first g) = absurd (first.itself (record { micros = micros; said = is }))
one_span_fault text fault other (long_span micros is out f) (long_span micros' is' out' g) = f ∙ sym g

-- decimals, read in front of a `Z`
pub printed_decimals_are_said : PrintedDecimalsAreSaid
printed_decimals_are_said micros few =
    let one = decimals_reads.sound (decimals micros ++ 90 ∷ []) (90 ∷ []) micros (decimals_read micros 90 [] few (refl, refl)) in
    subst (λ (t : List ℕ). IsDecimals t micros) (sym (append_cancel_right (decimals micros) one.front (90 ∷ []) one.parted)) one.is
