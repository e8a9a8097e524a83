use Rattle.std.proofs.Common.{◌≡◌, ◌≤◌, ◌∷◌, [], ◌++◌, ◌∙◌, ap, sym, subst, arith, ℕ, List, length, length-append, codes}
use Rattle.http_wire.specs.Form.{values_of}
use Rattle.http_wire.proofs.FieldLaws.{other_field, same_field}
use Rattle.sink_replies.specs.Found.{IsFound}
use Rattle.sink_replies.specs.declared.lengths.Found.{Found}
use Rattle.sink_replies.specs.declared.lengths.Found.TheVariants.{Absent, Once, Again}
use Rattle.sink_replies.proofs.lengths.with_field.Goals as goal

-- what was found before, under a name that stands somewhere
some_found : (found : Found) (values : List (List ℕ)) → (found ≡ Absent → ⊥) → IsFound found values → 1 ≤ length values
some_found Absent values some x = absurd (some (λ i. Absent))
some_found (Once v) values some x = let len = ap length x in omega (arith, len)
some_found Again values some x = omega (arith, x)

pub returns-then-not-is_content_length : goal.returns-then-not-is_content_length
returns-then-not-is_content_length c list x =
    subst (λ z. IsFound c.args.found z) (sym (other_field (codes "content-length") c.args.name.now c.args.value.now list (sym c.is_content_length.ensures ∙ c.if-not-is_content_length.true))) x

pub returns-in-Absent : goal.returns-in-Absent
returns-in-Absent c list x =
    same_field (codes "content-length") c.args.name.now c.args.value.now list (sym c.is_content_length.ensures ∙ c.if-not-is_content_length.false)
    ∙ ap (λ z. z ++ c.args.value.now ∷ []) (rw c.in-Absent.is at x)

pub returns-in_default : goal.returns-in_default
returns-in_default c list x =
    let e = ap length (same_field (codes "content-length") c.args.name.now c.args.value.now list (sym c.is_content_length.ensures ∙ c.if-not-is_content_length.false)) in
    let both = length-append (values_of (codes "content-length") list) (c.args.value.now ∷ []) in
    let some = some_found c.args.found (values_of (codes "content-length") list) c.in_default.not-Absent x in
    omega (arith, e, both, some)
