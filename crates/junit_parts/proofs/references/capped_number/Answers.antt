use Rattle.std.proofs.Common.{◌≡◌, ◌+◌, ◌*◌, ◌∷◌, min, drop, get_or, sym, ap, ◌∙◌, arith}
use Rattle.std.proofs.lemmas.List.{drop_more}
use Rattle.junit_parts.specs.References.{digit_value, number_from}
use Rattle.junit_parts.proofs.ByteLemmas.{capped, number_from_cons, number_ends}
use Rattle.junit_parts.proofs.references.capped_number.Goals as goal

pub loop-digit-preserved : goal.loop-digit-preserved
loop-digit-preserved c =
    let at = c.loop-digit in
    let digits = c.args.digits.now in
    let cap = c.args.cap in
    let base = c.args.base in
    let rest = drop (at.digit-index + 1) digits in
    let b = get_or digits at.digit-index 0 in
    let split : drop at.digit-index digits ≡ b ∷ rest = drop_more digits at.digit-index 0 c.loop-digit-test.true in
    let same : c.min-number.result ≡ min (base * at.number + digit_value b) cap = c.min-number.ensures ∙ ap (λ d. min (base * at.number + d) cap) c.digit_value.ensures.value in
    record {
      same = ap (λ v. min cap (number_from base v rest)) same ∙ capped base (base * at.number + digit_value b) cap rest c.requires.base
          ∙ ap (min cap) (sym (number_from_cons base at.number b rest)) ∙ ap (λ ds. min cap (number_from base at.number ds)) (sym split) ∙ at.invariant.same;
      few = omega (arith, same);
    }

pub returns : goal.returns
returns c =
    let at = c.loop-digit in
    number_ends c.args.base at.number c.args.cap at.digit-index c.args.digits.now (omega arith) at.invariant.few ∙ at.invariant.same
