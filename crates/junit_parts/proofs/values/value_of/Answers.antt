use Rattle.std.proofs.Common.{◌≡◌, ◌∷◌, List, ℕ, length, Ok, Err, sym, ap, subst, ◌∙◌}
use Rattle.std.proofs.lemmas.List.{nil_from_length}
use Rattle.junit_parts.specs.References.{reference_from}
use Rattle.junit_parts.specs.Values.{reference_at, value_of}
use Rattle.junit_parts.proofs.ValueLemmas.{Left, is_other, left_byte, left_reference, left_flaw, left_none, left_at}
use Rattle.junit_parts.proofs.values.value_of.Goals as goal

pub loop-first-preserved-then-first-ne38 : goal.loop-first-preserved-then-first-ne38
loop-first-preserved-then-first-ne38 c =
    let at = c.loop-first in
    let left = left_at at.text.items at.rest.now _ (value_of c.args.value.now) at.invariant c.in-Some.ensures.cases.0 in
    let next = left_byte at.text.items c.in-Some.first.now c.in-Some.behind.now (value_of c.args.value.now) left (is_other _ c.if-first-ne38.true) in
    let P : List ℕ → Type 0 = λ t. Left t c.in-Some.behind.now (value_of c.args.value.now) in
    subst P (sym c.in_ok-push.ensures.items) next

pub loop-first-preserved : goal.loop-first-preserved
loop-first-preserved c =
    let at = c.loop-first in
    let e : at.rest.now ≡ 38 ∷ c.in-Some.behind.now = c.in-Some.ensures.cases.0 ∙ ap (λ b. b ∷ c.in-Some.behind.now) c.if-first-ne38.false in
    let left = left_at at.text.items at.rest.now _ (value_of c.args.value.now) at.invariant e in
    let is : reference_at (length (38 ∷ c.in-Some.behind.now)) (reference_from c.in-Some.behind.now) ≡ Ok (c.in-Ok.read.0, c.in-Ok.read.1.now) =
    ap (λ t. reference_at (length t) (reference_from c.in-Some.behind.now)) (sym e) ∙ sym c.in-Ok.ensures.read in
    let next = left_reference at.text.items c.in-Ok.read.0 c.in-Some.behind.now c.in-Ok.read.1.now (value_of c.args.value.now) left is c.in-Ok.ensures.within in
    let P : List ℕ → Type 0 = λ t. Left t c.in-Ok.read.1.now (value_of c.args.value.now) in
    subst P (sym c.in_ok-push_char.ensures) next

pub returns-in-Err : goal.returns-in-Err
returns-in-Err c =
    let at = c.loop-first in
    let e : at.rest.now ≡ 38 ∷ c.in-Some.behind.now = c.in-Some.ensures.cases.0 ∙ ap (λ b. b ∷ c.in-Some.behind.now) c.if-first-ne38.false in
    let left = left_at at.text.items at.rest.now _ (value_of c.args.value.now) at.invariant e in
    let is : reference_at (length (38 ∷ c.in-Some.behind.now)) (reference_from c.in-Some.behind.now) ≡ Err c.in-Err.flaw =
    ap (λ t. reference_at (length t) (reference_from c.in-Some.behind.now)) (sym e) ∙ sym c.in-Err.ensures.read in
    left_flaw at.text.items c.in-Some.behind.now c.in-Err.flaw (value_of c.args.value.now) left is

pub returns : goal.returns
returns c = left_none c.loop-first.text.items c.loop-first.rest.now (value_of c.args.value.now) c.loop-first.invariant (nil_from_length c.loop-first.rest.now c.in_default.ensures.cases)
