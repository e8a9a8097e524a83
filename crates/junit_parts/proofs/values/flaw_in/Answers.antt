use Rattle.std.proofs.Common.{◌≡◌, ◌++◌, ◌∷◌, [], length, encode_utf8, Ok, Err, sym, ap, ◌∙◌}
use Rattle.std.proofs.lemmas.List.{nil_from_length}
use Rattle.junit_parts.specs.References.{reference_from}
use Rattle.junit_parts.specs.Values.{flaw_in, reference_at, value_of}
use Rattle.junit_parts.proofs.ValueLemmas.{is_other, left_byte, left_reference, left_flaw, left_none, left_at}
use Rattle.junit_parts.proofs.values.flaw_in.Goals as goal

pub loop-first-preserved-then-first-ne38 : goal.loop-first-preserved-then-first-ne38
loop-first-preserved-then-first-ne38 c =
    let at = c.loop-first in
    let left = left_at at.invariant.0 at.rest.now _ (value_of c.args.value.now) at.invariant.1 c.in-Some.ensures.cases.0 in
    (at.invariant.0 ++ c.in-Some.first.now ∷ [], left_byte at.invariant.0 c.in-Some.first.now c.in-Some.behind.now (value_of c.args.value.now) left (is_other _ c.if-first-ne38.true))

pub loop-first-preserved : goal.loop-first-preserved
loop-first-preserved c =
    let at = c.loop-first in
    let e : at.rest.now ≡ 38 ∷ c.in-Some.behind.now = c.in-Some.ensures.cases.0 ∙ ap (λ b. b ∷ c.in-Some.behind.now) c.if-first-ne38.false in
    let left = left_at at.invariant.0 at.rest.now _ (value_of c.args.value.now) at.invariant.1 e in
    let is : reference_at (length (38 ∷ c.in-Some.behind.now)) (reference_from c.in-Some.behind.now) ≡ Ok (c.in-Ok.field-0-0, c.in-Ok.next.now) =
    ap (λ t. reference_at (length t) (reference_from c.in-Some.behind.now)) (sym e) ∙ sym c.in-Ok.ensures.read in
    (at.invariant.0 ++ encode_utf8 c.in-Ok.field-0-0, left_reference at.invariant.0 c.in-Ok.field-0-0 c.in-Some.behind.now c.in-Ok.next.now (value_of c.args.value.now) left is c.in-Ok.ensures.within)

pub returns-in-Err : goal.returns-in-Err
returns-in-Err c =
    let at = c.loop-first in
    let e : at.rest.now ≡ 38 ∷ c.in-Some.behind.now = c.in-Some.ensures.cases.0 ∙ ap (λ b. b ∷ c.in-Some.behind.now) c.if-first-ne38.false in
    let left = left_at at.invariant.0 at.rest.now _ (value_of c.args.value.now) at.invariant.1 e in
    let is : reference_at (length (38 ∷ c.in-Some.behind.now)) (reference_from c.in-Some.behind.now) ≡ Err c.in-Err.flaw =
    ap (λ t. reference_at (length t) (reference_from c.in-Some.behind.now)) (sym e) ∙ sym c.in-Err.ensures.read in
    sym (ap flaw_in (left_flaw at.invariant.0 c.in-Some.behind.now c.in-Err.flaw (value_of c.args.value.now) left is))

pub returns : goal.returns
returns c = sym (ap flaw_in (left_none c.loop-first.invariant.0 c.loop-first.rest.now (value_of c.args.value.now) c.loop-first.invariant.1 (nil_from_length c.loop-first.rest.now c.in_default.ensures.cases)))
