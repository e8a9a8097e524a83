use Rattle.std.proofs.Common.{◌∷◌, [], ◌++◌, ◌∙◌, ap, sym, subst, arith, length, length-append}
use Rattle.http_wire.specs.Form.{values_of}
use Rattle.http_wire.specs.Found.{IsFound}
use Rattle.http_wire.proofs.FieldLaws.{other_field, same_field, some_found}
use Rattle.http_wire.proofs.fields.with_field.Goals as goal

pub returns-then-not-is_same_but_case : goal.returns-then-not-is_same_but_case
returns-then-not-is_same_but_case c list x =
    subst (λ z. IsFound c.args.found z) (sym (other_field c.args.wanted.now c.args.name.now c.args.value.now list (sym c.is_same_but_case.ensures ∙ c.if-not-is_same_but_case.true))) x

pub returns-in-Absent : goal.returns-in-Absent
returns-in-Absent c list x =
    same_field c.args.wanted.now c.args.name.now c.args.value.now list (sym c.is_same_but_case.ensures ∙ c.if-not-is_same_but_case.false)
    ∙ ap (λ z. z ++ c.args.value.now ∷ []) (rw c.in-Absent.is at x)

pub returns-in_default : goal.returns-in_default
returns-in_default c list x =
    let e = ap length (same_field c.args.wanted.now c.args.name.now c.args.value.now list (sym c.is_same_but_case.ensures ∙ c.if-not-is_same_but_case.false)) in
    let both = length-append (values_of c.args.wanted.now list) (c.args.value.now ∷ []) in
    let some = some_found c.args.found (values_of c.args.wanted.now list) c.in_default.not-Absent x in
    omega (arith, e, both, some)
