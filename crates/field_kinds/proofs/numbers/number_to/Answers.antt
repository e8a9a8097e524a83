use Rattle.std.proofs.Common.{◌≡◌, ℕ, List, min, true, sym, ap, subst, ◌∙◌, arith}
use Rattle.std.specs.List.{list_all}
use Rattle.std.specs.Char.{is_ascii_digit}
use Rattle.std.specs.Str.Parse.{digits_value_after}
use Rattle.field_kinds.proofs.NumberLaws.{digits_more, rest_digits}
use Rattle.field_kinds.proofs.numbers.number_to.Goals as goal

pub loop-digit-preserved : goal.loop-digit-preserved
loop-digit-preserved c =
    let is = (c.in-Some.ensures.cases).0 in
    let cut = c.with_digit-number.ensures in
    record {
      digits = rest_digits c.in-Some.digit.now c.in-Some.rest.now (subst (λ (l : List ℕ). list_all is_ascii_digit l ≡ true) is c.loop-digit.invariant.digits);
      value = ap (λ (x : ℕ). min (digits_value_after 10 x c.in-Some.rest.now) c.args.top) cut
          ∙ digits_more c.loop-digit.number c.args.top c.in-Some.digit.now c.in-Some.rest.now
          ∙ ap (λ (l : List ℕ). min (digits_value_after 10 c.loop-digit.number l) c.args.top) (sym is) ∙ c.loop-digit.invariant.value;
      most = omega (arith, cut);
    }
