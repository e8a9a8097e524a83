use Rattle.std.proofs.Common.{◌≡◌, ◌≤◌, ◌+◌, ◌-◌, suc, ℕ, List, [], ◌∷◌, true, false, sym, ap, ◌∙◌, arith}
use Rattle.std.proofs.Math.Nat.{mul-le-mul_left}
use Rattle.std.specs.Char.{is_ascii_digit}
use Rattle.std.proofs.lemmas.List.{nil_from_length}
use Rattle.moments_spans.specs.MomentReading.{fraction_from}
use Rattle.moments_spans.proofs.FractionLemmas.{fraction-digit, fraction-other, fraction-end, fraction-zero, digit-value}
use Rattle.moments_spans.proofs.moment_reading.fraction.Goals as goal

pub returns-in_default-clause-value : goal.returns-in_default-clause-value
returns-in_default-clause-value c =
    let at = c.loop-place in
    let none : at.rest.now ≡ [] = nil_from_length at.rest.now c.in_default.ensures.cases in
    ap (λ (r : List ℕ). (at.micros, r)) none ∙ sym (fraction-end (9 - at.place) at.worth at.micros)
    ∙ ap (λ (r : List ℕ). fraction_from (9 - at.place) at.worth at.micros r) (sym none) ∙ at.invariant.same

pub returns-then-not-is_ascii_digit-clause-value : goal.returns-then-not-is_ascii_digit-clause-value
returns-then-not-is_ascii_digit-clause-value c =
    let at = c.loop-place in
    let split : at.rest.now ≡ c.in-Some.first.now ∷ c.in-Some.behind.now = c.in-Some.ensures.cases.0 in
    let other : is_ascii_digit c.in-Some.first.now ≡ false = sym c.is_ascii_digit.ensures.value ∙ c.if-not-is_ascii_digit.true in
    ap (λ (r : List ℕ). (at.micros, r)) split ∙ sym (fraction-other (9 - at.place) at.worth at.micros _ _ other)
    ∙ ap (λ (r : List ℕ). fraction_from (9 - at.place) at.worth at.micros r) (sym split) ∙ at.invariant.same

pub loop-place-preserved : goal.loop-place-preserved
loop-place-preserved c =
    let at = c.loop-place in
    let split : at.rest.now ≡ c.in-Some.first.now ∷ c.in-Some.behind.now = c.in-Some.ensures.cases.0 in
    let digit : is_ascii_digit c.in-Some.first.now ≡ true = sym c.is_ascii_digit.ensures.value ∙ c.if-not-is_ascii_digit.false in
    let nine : c.in-Some.first.now - 48 ≤ 9 = digit-value c.in-Some.first.now digit in
    let most = mul-le-mul_left at.worth nine in
    let left : 9 - at.place ≡ suc (9 - (at.place + 1)) = omega arith in
    record {
      same = sym (fraction-digit (9 - at.place) (9 - (at.place + 1)) at.worth at.micros _ _ left digit)
          ∙ ap (λ (r : List ℕ). fraction_from (9 - at.place) at.worth at.micros r) (sym split) ∙ at.invariant.same;
      few = omega (arith, most, at.invariant.few, at.invariant.room);
      room = omega (arith, most, at.invariant.room);
    }

pub returns-clause-value : goal.returns-clause-value
returns-clause-value c =
    let at = c.loop-place in
    let done : 9 - at.place ≡ 0 = omega arith in
    sym (fraction-zero at.worth at.micros at.rest.now) ∙ ap (λ n. fraction_from n at.worth at.micros at.rest.now) (sym done) ∙ at.invariant.same
