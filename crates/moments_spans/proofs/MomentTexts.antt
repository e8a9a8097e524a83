-- Moments are read by their grammar, and refused at the first place that breaks it.
use Rattle.std.proofs.Common.{◌≡◌, ◌≢◌, ℕ, ◌-◌, ◌==◌, true, false, List, [], ◌∷◌, length, Result, Ok, Err, ℤ, refl, sym, ap, ◌∙◌, arith}
use Rattle.std.proofs.lemmas.Int.{ints}
use Rattle.name_parts.specs.declared.faults.NameFault.{NameFault}
use Rattle.name_parts.specs.declared.faults.NameFault.TheVariants.{Empty, BadByte, OutOfRange}
use Rattle.name_parts.specs.Grammar.{IsFirstBadPlace}
use Rattle.moments_spans.specs.Moments.{IsInYears}
use Rattle.moments_spans.specs.MomentReading.{◌>>=◌, byte_from, day_from, clock_from, zone_from, ended, moment_from, is_in_years, moment_judged, moment_of}
use Rattle.moments_spans.specs.MomentGrammar.{IsMomentText, SaysMoment, IsMomentFault, empty, bad, outside}
use Rattle.moments_spans.proofs.DigitLaws.{is_positive}
use Rattle.moments_spans.proofs.ReaderLaws.{by_result, by_test, same_ok, same_err, not_both}
use Rattle.moments_spans.proofs.ZoneReaders.{moment_reader, moment_reads}
use Rattle.moments_spans.proofs.WholeTexts.{assoc, same_behind, whole_complete, whole_sound, whole_breaks}

moment_is : (text : List ℕ) → (moment_reader text >>= (λ x. ended x.0 x.1)) ≡ moment_from text
unfolding moment_from
moment_is text =
    assoc (day_from text) _ _
    ∙ same_behind (day_from text) _ _ (λ day. assoc (byte_from 84 day.1) _ _
    ∙ same_behind (byte_from 84 day.1) _ _ (λ behind. assoc (clock_from behind) _ _
    ∙ same_behind (clock_from behind) _ _ (λ clock. assoc (zone_from clock.1) _ _)))

say : (t : List ℕ) (micros : ℤ) → IsMomentText t micros → SaysMoment t
say t micros is = record { micros = micros; said = is }

said : (t : List ℕ) → SaysMoment t → (micros : ℤ) × IsMomentText t micros
said t is = (is.micros, is.said)

nothing : (v : ℤ) → ended v [] ≡ Ok v
nothing v = refl

more : (v : ℤ) (b : ℕ) (bs : List ℕ) → ended v (b ∷ bs) ≡ Err (length (b ∷ bs))
more v b bs = refl

pub read_of_text : (text : List ℕ) (micros : ℤ) → IsMomentText text micros → moment_from text ≡ Ok micros
read_of_text text micros is = sym (moment_is text) ∙ whole_complete moment_reader IsMomentText moment_reads ended nothing more SaysMoment say said text micros is

text_of_read : (text : List ℕ) (micros : ℤ) → moment_from text ≡ Ok micros → IsMomentText text micros
text_of_read text micros e = whole_sound moment_reader IsMomentText moment_reads ended nothing more SaysMoment say said text micros (moment_is text ∙ e)

place_of_refusal : (text : List ℕ) (left : ℕ) → moment_from text ≡ Err left → IsFirstBadPlace SaysMoment text (length text - left)
place_of_refusal text left e = whole_breaks moment_reader IsMomentText moment_reads ended nothing more SaysMoment say said text left (moment_is text ∙ e)

judged_in : (len : ℕ) (micros : ℤ) → is_in_years micros ≡ true → moment_judged len (Ok micros) ≡ Ok micros
unfolding moment_judged
judged_in len micros e = rw e refl

judged_out : (len : ℕ) (micros : ℤ) → is_in_years micros ≡ false → moment_judged len (Ok micros) ≡ Err OutOfRange
unfolding moment_judged
judged_out len micros e = rw e refl

judged_bad : (len left : ℕ) → moment_judged len (Err left) ≡ Err (BadByte (len - left))
unfolding moment_judged
judged_bad len left = refl

is_outside : (micros : ℤ) → is_in_years micros ≡ false → ¬ IsInYears micros
is_outside micros e within = absurd (grind (arith, ints, e, within.0, within.1))

abbrev judged : List ℕ → Result ℤ NameFault
judged text = moment_judged (length text) (moment_from text)

judged_said : (text : List ℕ) (micros : ℤ) → judged text ≡ Ok micros → IsMomentText text micros
judged_said text micros e =
    by_result (moment_from text)
    (λ found at.
    let is = ap (moment_judged (length text)) at in
    by_test (is_in_years found)
    (λ within.
    let same : found ≡ micros = same_ok found micros (judged text) (is ∙ judged_in (length text) found within) e in
    text_of_read text micros (at ∙ ap Ok same))
    (λ out. not_both micros OutOfRange (judged text) e (is ∙ judged_out (length text) found out)))
    (λ left at. not_both micros (BadByte (length text - left)) (judged text) e (ap (moment_judged (length text)) at ∙ judged_bad (length text) left))

judged_fault : (text : List ℕ) (f : NameFault) → text ≢ [] → judged text ≡ Err f → IsMomentFault text f
judged_fault text f some e =
    by_result (moment_from text)
    (λ found at.
    let is = ap (moment_judged (length text)) at in
    by_test (is_in_years found)
    (λ within. not_both found f (judged text) (is ∙ judged_in (length text) found within) e)
    (λ out. outside found (text_of_read text found at) (is_outside found out) (same_err f OutOfRange (judged text) e (is ∙ judged_out (length text) found out))))
    (λ left at. bad some (length text - left) (place_of_refusal text left at) (same_err f (BadByte (length text - left)) (judged text) e (ap (moment_judged (length text)) at ∙ judged_bad (length text) left)))

some_bytes : (b : ℕ) (bs : List ℕ) → (length (b ∷ bs) == 0) ≡ false
some_bytes b bs = is_positive _ (omega arith)

-- A text that is read says the moment.
pub said_of_text : (text : List ℕ) (micros : ℤ) → moment_of text ≡ Ok micros → IsMomentText text micros
said_of_text [] micros e = not_both micros Empty (Err Empty) e refl
said_of_text (b ∷ bs) micros e = judged_said (b ∷ bs) micros (rw (some_bytes b bs) at e)

-- A text that is refused is wrong just so.
pub fault_of_text : (text : List ℕ) (f : NameFault) → moment_of text ≡ Err f → IsMomentFault text f
fault_of_text [] f e = empty refl (same_err f Empty (Err Empty) e refl)
fault_of_text (b ∷ bs) f e = judged_fault (b ∷ bs) f (λ none. absurd cc) (rw (some_bytes b bs) at e)
