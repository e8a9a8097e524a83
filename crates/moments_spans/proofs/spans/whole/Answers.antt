use Rattle.std.proofs.Common.{◌≡◌, ◌≤◌, ◌+◌, ◌-◌, suc, ℕ, List, [], ◌∷◌, true, false, sym, ap, ◌∙◌, arith}
use Rattle.std.specs.Char.{is_ascii_digit}
use Rattle.std.proofs.lemmas.List.{nil_from_length}
use Rattle.moments_spans.specs.SpanReading.{whole_from}
use Rattle.moments_spans.proofs.FractionLemmas.{whole-digit, whole-other, whole-end, whole-zero, digit-value, ten_below, ten_below_more}
use Rattle.moments_spans.proofs.spans.whole.Goals as goal

pub returns-in_default-clause-value : goal.returns-in_default-clause-value
returns-in_default-clause-value c =
    let at = c.loop-place in
    let none : at.rest.now ≡ [] = nil_from_length at.rest.now c.in_default.ensures.cases in
    ap (λ (r : List ℕ). (at.number, r)) none ∙ sym (whole-end (12 - at.place) at.number)
    ∙ ap (λ (r : List ℕ). whole_from (12 - at.place) at.number r) (sym none) ∙ at.invariant.same

pub returns-then-not-is_ascii_digit-clause-value : goal.returns-then-not-is_ascii_digit-clause-value
returns-then-not-is_ascii_digit-clause-value c =
    let at = c.loop-place in
    let split : at.rest.now ≡ c.in-Some.first.now ∷ c.in-Some.behind.now = c.in-Some.ensures.cases.0 in
    let other : is_ascii_digit c.in-Some.first.now ≡ false = sym c.is_ascii_digit.ensures.value ∙ c.if-not-is_ascii_digit.true in
    ap (λ (r : List ℕ). (at.number, r)) split ∙ sym (whole-other (12 - at.place) at.number _ _ other)
    ∙ ap (λ (r : List ℕ). whole_from (12 - at.place) at.number r) (sym split) ∙ at.invariant.same

pub loop-place-preserved : goal.loop-place-preserved
loop-place-preserved c =
    let at = c.loop-place in
    let split : at.rest.now ≡ c.in-Some.first.now ∷ c.in-Some.behind.now = c.in-Some.ensures.cases.0 in
    let digit : is_ascii_digit c.in-Some.first.now ≡ true = sym c.is_ascii_digit.ensures.value ∙ c.if-not-is_ascii_digit.false in
    let nine : c.in-Some.first.now - 48 ≤ 9 = digit-value c.in-Some.first.now digit in
    let left : 12 - at.place ≡ suc (12 - (at.place + 1)) = omega arith in
    record {
      same = sym (whole-digit (12 - at.place) (12 - (at.place + 1)) at.number _ _ left digit)
          ∙ ap (λ (r : List ℕ). whole_from (12 - at.place) at.number r) (sym split) ∙ at.invariant.same;
      few = ten_below_more at.number at.place (c.in-Some.first.now - 48) at.invariant.few nine;
    }

pub returns-clause-value : goal.returns-clause-value
returns-clause-value c =
    let at = c.loop-place in
    let done : 12 - at.place ≡ 0 = omega arith in
    sym (whole-zero at.number at.rest.now) ∙ ap (λ n. whole_from n at.number at.rest.now) (sym done) ∙ at.invariant.same

pub returns-in_default-clause-bound : goal.returns-in_default-clause-bound
returns-in_default-clause-bound c = ten_below c.loop-place.number c.loop-place.place c.loop-place.invariant.few (omega arith)

pub returns-then-not-is_ascii_digit-clause-bound : goal.returns-then-not-is_ascii_digit-clause-bound
returns-then-not-is_ascii_digit-clause-bound c = ten_below c.loop-place.number c.loop-place.place c.loop-place.invariant.few (omega arith)

pub returns-clause-bound : goal.returns-clause-bound
returns-clause-bound c = ten_below c.loop-place.number c.loop-place.place c.loop-place.invariant.few (omega arith)

pub overflow_mul-number : goal.overflow_mul-number
overflow_mul-number c =
    let few = ten_below c.loop-place.number c.loop-place.place c.loop-place.invariant.few (omega arith) in omega (arith, few)

pub overflow_add-number : goal.overflow_add-number
overflow_add-number c =
    let few = ten_below c.loop-place.number c.loop-place.place c.loop-place.invariant.few (omega arith) in
    let digit : is_ascii_digit c.in-Some.first.now ≡ true = sym c.is_ascii_digit.ensures.value ∙ c.if-not-is_ascii_digit.false in
    omega (arith, few, digit-value c.in-Some.first.now digit)
