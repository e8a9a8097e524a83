use Rattle.std.proofs.Common.{◌≡◌, ◌++◌, ◌∷◌, [], length, encode_utf8, Ok, Err, sym, ap, ◌∙◌}
use Rattle.std.proofs.lemmas.List.{nil_from_length}
use Rattle.junit_reader.specs.Fronts.{front, front_of}
use Rattle.junit_parts.specs.References.{reference_from}
use Rattle.junit_parts.specs.Values.{reference_at, value_of}
use Rattle.junit_parts.proofs.ValueLemmas.{begun, is_other, left_byte, left_reference, left_flaw, left_none, left_at}
use Rattle.junit_reader.proofs.fronts.value_front.Goals as goal

pub loop-first-init : goal.loop-first-init
loop-first-init c = record { text = []; same = c.new-kept.ensures.items; left = begun c.args.value.now }

pub loop-first-preserved-then-first-ne38 : goal.loop-first-preserved-then-first-ne38
loop-first-preserved-then-first-ne38 c =
    let at = c.loop-first in
    let left = left_at at.invariant.text at.rest.now _ (value_of c.args.value.now) at.invariant.left c.in-Some.ensures.cases.0 in
    record {
      text = at.invariant.text ++ c.in-Some.first.now ∷ [];
      same = c.in_ok-push_front.ensures at.invariant.text at.invariant.same;
      left = left_byte at.invariant.text c.in-Some.first.now c.in-Some.behind.now (value_of c.args.value.now) left (is_other _ c.if-first-ne38.true);
    }

pub loop-first-preserved : goal.loop-first-preserved
loop-first-preserved c =
    let at = c.loop-first in
    let e : at.rest.now ≡ 38 ∷ c.in-Some.behind.now = c.in-Some.ensures.cases.0 ∙ ap (λ b. b ∷ c.in-Some.behind.now) c.if-first-ne38.false in
    let left = left_at at.invariant.text at.rest.now _ (value_of c.args.value.now) at.invariant.left e in
    let is : reference_at (length (38 ∷ c.in-Some.behind.now)) (reference_from c.in-Some.behind.now) ≡ Ok (c.in-Ok.read.0, c.in-Ok.read.1.now) =
    ap (λ t. reference_at (length t) (reference_from c.in-Some.behind.now)) (sym e) ∙ sym c.in-Ok.ensures.read in
    let bytes : c.as_bytes.result.now ≡ encode_utf8 c.in-Ok.read.0 = c.as_bytes.ensures.value ∙ c.encode_utf8-encoded.ensures.value in
    record {
      text = at.invariant.text ++ encode_utf8 c.in-Ok.read.0;
      same = c.in_ok-push_front-2.ensures at.invariant.text at.invariant.same ∙ ap (λ b. front (at.invariant.text ++ b)) bytes;
      left = left_reference at.invariant.text c.in-Ok.read.0 c.in-Some.behind.now c.in-Ok.read.1.now (value_of c.args.value.now) left is c.in-Ok.ensures.within;
    }

pub returns-in-Err : goal.returns-in-Err
returns-in-Err c =
    let at = c.loop-first in
    let e : at.rest.now ≡ 38 ∷ c.in-Some.behind.now = c.in-Some.ensures.cases.0 ∙ ap (λ b. b ∷ c.in-Some.behind.now) c.if-first-ne38.false in
    let left = left_at at.invariant.text at.rest.now _ (value_of c.args.value.now) at.invariant.left e in
    let is : reference_at (length (38 ∷ c.in-Some.behind.now)) (reference_from c.in-Some.behind.now) ≡ Err c.in-Err.flaw =
    ap (λ t. reference_at (length t) (reference_from c.in-Some.behind.now)) (sym e) ∙ sym c.in-Err.ensures.read in
    ap front_of (left_flaw at.invariant.text c.in-Some.behind.now c.in-Err.flaw (value_of c.args.value.now) left is)

pub returns : goal.returns
returns c =
    let at = c.loop-first.invariant in
    ap front_of (left_none at.text c.loop-first.rest.now (value_of c.args.value.now) at.left (nil_from_length c.loop-first.rest.now c.in_default.ensures.cases))
    ∙ ap Ok (sym at.same)
