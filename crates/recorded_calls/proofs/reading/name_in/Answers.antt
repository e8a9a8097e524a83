use Rattle.std.proofs.Common.{◌^◌, ◌<◌, ◌++◌, List, ℕ, length, arith, sym, ap, ◌∙◌}
use Rattle.std.specs.Int.{w16, to_le_bytes}
use Rattle.recorded_calls.proofs.CommandLaws.{never_named}
use Rattle.recorded_calls.proofs.reading.name_in.Goals as goal

pub returns-then-not-has_name_form-clause-none : goal.returns-then-not-has_name_form-clause-none
returns-then-not-has_name_form-clause-none c =
    let size = c.in_ok-size.size.content.now in
    let name = c.in_ok-name.name in
    let found = c.in_ok-name.ensures.some in
    let few : length name.content.now < 2 ^ 16 = omega (arith, found.0, c.two_bytes.type_inv) in
    never_named c.args.bytes.now name.content.now name.rest.now size
    (c.in_ok-size.ensures.some.1 ∙ ap (λ (l : List ℕ). size ++ l) found.1)
    (sym c.two_bytes.ensures ∙ ap (to_le_bytes w16) (sym found.0)) (λ is. cc (is, c.has_name_form.ensures, c.if-not-has_name_form.true)) few
