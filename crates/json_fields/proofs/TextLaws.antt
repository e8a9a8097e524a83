-- Texts: the grammars of moments and spans against what their readers tell, and values of pairs.
use Rattle.std.proofs.Common.{◌≡◌, ℕ, ℤ, ◌≤◌, ◌==◌, Bool, true, false, nat_le, List, [], ◌∷◌, length, Some, None, Result, Ok, Err, if◌then◌else◌, refl, ap, subst, ◌∙◌, arith}
use Rattle.std.proofs.lemmas.Bool.{leb-true}
use Rattle.std.proofs.lemmas.Int.{ints}
use Rattle.names_realms.specs.NameParts.declared.faults.NameFault.{NameFault}
use Rattle.names_realms.specs.NameParts.declared.faults.NameFault.TheVariants.{Empty, OutOfRange}
use Rattle.names_realms.specs.MomentsSpans.Moments.{IsInYears}
use Rattle.names_realms.specs.MomentsSpans.Spans.{most_span}
use Rattle.names_realms.specs.MomentsSpans.MomentGrammar.{IsMomentText, IsMomentFault}
use Rattle.names_realms.specs.MomentsSpans.SpanGrammar.{IsSpanText, IsSpanFault}
use Rattle.names_realms.specs.MomentsSpans.MomentReading.{moment_of, moment_from, moment_judged, is_in_years}
use Rattle.names_realms.specs.MomentsSpans.SpanReading.{span_of, span_from, span_judged}
use Rattle.names_realms.proofs.MomentsSpans.MomentTexts.{said_of_text, fault_of_text}
use Rattle.names_realms.proofs.MomentsSpans.SpanTexts.{said_of_text as span_said_of_text, fault_of_text as span_fault_of_text}
use Rattle.names_realms.proofs.MomentsSpans.SaidLaws.{said_moment_has_no_fault, one_moment_fault, said_span_has_no_fault, one_span_fault}
use Rattle.json_fields.specs.Texts.{wrong_of, moment_fault, span_fault}

in_years : (z : ℤ) → is_in_years z ≡ true → IsInYears z
in_years z e = grind (arith, ints)

years : (k z : ℤ) (b : Bool) → is_in_years k ≡ b → (if b then Ok k else Err OutOfRange) ≡ Ok z → IsInYears z
years k z true t e = let same : k ≡ z = cc in subst (λ (x : ℤ). IsInYears x) same (in_years k t)
years k z false t e = absurd cc

judged_in_years : (len : ℕ) (r : Result ℤ ℕ) (z : ℤ) → moment_judged len r ≡ Ok z → IsInYears z
unfolding moment_judged
judged_in_years len (Ok k) z e = years k z (is_in_years k) refl e
judged_in_years len (Err n) z e = absurd cc

some_bytes : (b : ℕ) (bs : List ℕ) → (length (b ∷ bs) == 0) ≡ false
some_bytes b bs = grind arith

moment_years : (text : List ℕ) (z : ℤ) → moment_of text ≡ Ok z → IsInYears z
moment_years [] z e = absurd cc
moment_years (b ∷ bs) z e = judged_in_years (length (b ∷ bs)) (moment_from (b ∷ bs)) z (rw (some_bytes b bs) at e)

moment_none : (text : List ℕ) (z : ℤ) (r : Result ℤ NameFault) → moment_of text ≡ r → IsMomentText text z → IsInYears z → wrong_of r ≡ None
moment_none text z (Ok n) e said in_years = refl
moment_none text z (Err f) e said in_years = absurd (said_moment_has_no_fault text z f said in_years (fault_of_text text f e))

pub moment_fault-None : (text : List ℕ) (z : ℤ) → IsMomentText text z → IsInYears z → moment_fault text ≡ None
unfolding moment_fault
moment_fault-None text z said in_years = moment_none text z (moment_of text) refl said in_years

moment_some : (text : List ℕ) (f : NameFault) (r : Result ℤ NameFault) → moment_of text ≡ r → IsMomentFault text f → wrong_of r ≡ Some f
moment_some text f (Ok z) e wrong = absurd (said_moment_has_no_fault text z f (said_of_text text z e) (moment_years text z e) wrong)
moment_some text f (Err g) e wrong = ap Some (one_moment_fault text g f (fault_of_text text g e) wrong)

pub moment_fault-Some : (text : List ℕ) (f : NameFault) → IsMomentFault text f → moment_fault text ≡ Some f
unfolding moment_fault
moment_fault-Some text f wrong = moment_some text f (moment_of text) refl wrong

moment_there : (text : List ℕ) (r : Result ℤ NameFault) → moment_of text ≡ r → wrong_of r ≡ None → (z : ℤ) × (moment_of text ≡ Ok z)
moment_there text (Ok z) e none = (z, e)
moment_there text (Err f) e none = absurd cc

-- a text without a fault says a moment
pub moment_of_text : (text : List ℕ) → moment_fault text ≡ None → (z : ℤ) × IsMomentText text z × IsInYears z
unfolding moment_fault
moment_of_text text none =
    let there = moment_there text (moment_of text) refl none in
    (there.0, said_of_text text there.0 there.1, moment_years text there.0 there.1)

moment_wrong : (text : List ℕ) (f : NameFault) (r : Result ℤ NameFault) → moment_of text ≡ r → wrong_of r ≡ Some f → IsMomentFault text f
moment_wrong text f (Ok z) e some = absurd cc
moment_wrong text f (Err g) e some = let same : g ≡ f = cc in fault_of_text text f (e ∙ ap Err same)

pub moment_fault-is : (text : List ℕ) (f : NameFault) → moment_fault text ≡ Some f → IsMomentFault text f
unfolding moment_fault
moment_fault-is text f some = moment_wrong text f (moment_of text) refl some

span_within : (k n : ℕ) (b : Bool) → nat_le k most_span ≡ b → (if b then Ok k else Err OutOfRange) ≡ Ok n → n ≤ most_span
span_within k n true t e = let same : k ≡ n = cc in subst (λ (x : ℕ). x ≤ most_span) same (leb-true k most_span t)
span_within k n false t e = absurd cc

judged_within : (len : ℕ) (r : Result ℕ ℕ) (n : ℕ) → span_judged len r ≡ Ok n → n ≤ most_span
unfolding span_judged
judged_within len (Ok k) n e = span_within k n (nat_le k most_span) refl e
judged_within len (Err m) n e = absurd cc

span_most : (text : List ℕ) (n : ℕ) → span_of text ≡ Ok n → n ≤ most_span
span_most [] n e = absurd cc
span_most (b ∷ bs) n e = judged_within (length (b ∷ bs)) (span_from (b ∷ bs)) n (rw (some_bytes b bs) at e)

span_none : (text : List ℕ) (n : ℕ) (r : Result ℕ NameFault) → span_of text ≡ r → IsSpanText text n → n ≤ most_span → wrong_of r ≡ None
span_none text n (Ok m) e said most = refl
span_none text n (Err f) e said most = absurd (said_span_has_no_fault text n f said most (span_fault_of_text text f e))

pub moment_empty : moment_fault [] ≡ Some Empty
unfolding moment_fault
moment_empty = refl

pub span_empty : span_fault [] ≡ Some Empty
unfolding span_fault
span_empty = refl

pub span_fault-None : (text : List ℕ) (n : ℕ) → IsSpanText text n → n ≤ most_span → span_fault text ≡ None
unfolding span_fault
span_fault-None text n said most = span_none text n (span_of text) refl said most

span_some : (text : List ℕ) (f : NameFault) (r : Result ℕ NameFault) → span_of text ≡ r → IsSpanFault text f → wrong_of r ≡ Some f
span_some text f (Ok n) e wrong = absurd (said_span_has_no_fault text n f (span_said_of_text text n e) (span_most text n e) wrong)
span_some text f (Err g) e wrong = ap Some (one_span_fault text g f (span_fault_of_text text g e) wrong)

pub span_fault-Some : (text : List ℕ) (f : NameFault) → IsSpanFault text f → span_fault text ≡ Some f
unfolding span_fault
span_fault-Some text f wrong = span_some text f (span_of text) refl wrong

span_there : (text : List ℕ) (r : Result ℕ NameFault) → span_of text ≡ r → wrong_of r ≡ None → (n : ℕ) × (span_of text ≡ Ok n)
span_there text (Ok n) e none = (n, e)
span_there text (Err f) e none = absurd cc

-- a text without a fault says a span
pub span_of_text : (text : List ℕ) → span_fault text ≡ None → (n : ℕ) × IsSpanText text n × (n ≤ most_span)
unfolding span_fault
span_of_text text none =
    let there = span_there text (span_of text) refl none in
    (there.0, span_said_of_text text there.0 there.1, span_most text there.0 there.1)

span_wrong : (text : List ℕ) (f : NameFault) (r : Result ℕ NameFault) → span_of text ≡ r → wrong_of r ≡ Some f → IsSpanFault text f
span_wrong text f (Ok n) e some = absurd cc
span_wrong text f (Err g) e some = let same : g ≡ f = cc in span_fault_of_text text f (e ∙ ap Err same)

pub span_fault-is : (text : List ℕ) (f : NameFault) → span_fault text ≡ Some f → IsSpanFault text f
unfolding span_fault
span_fault-is text f some = span_wrong text f (span_of text) refl some
