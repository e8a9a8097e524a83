use Rattle.std.proofs.Common.{◌≡◌, ℕ, ◌+◌, ◌<◌, [], length, Option, sym, ap, ◌∙◌, arith}
use Rattle.name_parts.specs.Escapes.{spelled}
use Rattle.name_parts.specs.Spellings.{front_fault, spelling_fault}
use Rattle.name_parts.proofs.EscapeLemmas.{spelled-at, spelled-nil, fault-front, fault-behind, not_empty, empty, read_first}
use Rattle.name_parts.proofs.escapes.fault_of_spellings.Goals as goal

pub returns-in-Some-clause-value : goal.returns-in-Some-clause-value
returns-in-Some-clause-value c =
    let at = c.loop-rest in
    let some : 0 < length at.rest.now = not_empty at.rest.now c.is_empty.result c.is_empty.ensures c.loop-rest-test.true in
    let split = spelled-at at.rest.now c.split_at.result.0.now c.split_at.result.1.now c.front-byte.result.0 c.front-byte.result.1 some c.front-byte.ensures.byte c.front-byte.ensures.len c.split_at.ensures.front c.split_at.ensures.back in
    let here = fault-front c.args.bad at.index at.place c.front-byte.result.0 c.split_at.result.0.now (spelled c.split_at.result.1.now) c.in-Some.fault (ap (front_fault (c.front-byte.result.0, c.split_at.result.0.now) at.place) (sym c.is_bad_at.ensures) ∙ sym c.fault_of_front.ensures.value ∙ c.in-Some.is) in
    sym here ∙ ap (spelling_fault c.args.bad at.index at.place) (sym split) ∙ sym at.invariant.same ∙ read_first c.args.bad (spelled c.args.text.now)

pub loop-rest-preserved : goal.loop-rest-preserved
loop-rest-preserved c =
    let at = c.loop-rest in
    let some : 0 < length at.rest.now = not_empty at.rest.now c.is_empty.result c.is_empty.ensures c.loop-rest-test.true in
    let split = spelled-at at.rest.now c.split_at.result.0.now c.split_at.result.1.now c.front-byte.result.0 c.front-byte.result.1 some c.front-byte.ensures.byte c.front-byte.ensures.len c.split_at.ensures.front c.split_at.ensures.back in
    let on = fault-behind c.args.bad at.index at.place c.front-byte.result.0 c.split_at.result.0.now (spelled c.split_at.result.1.now) (ap (front_fault (c.front-byte.result.0, c.split_at.result.0.now) at.place) (sym c.is_bad_at.ensures) ∙ sym c.fault_of_front.ensures.value ∙ c.in_default.is) in
    record {
      same = at.invariant.same ∙ ap (spelling_fault c.args.bad at.index at.place) split ∙ on
          ∙ ap (λ n. spelling_fault c.args.bad (at.index + 1) (at.place + n) (spelled c.split_at.result.1.now)) c.split_at.ensures.front_len;
      whole = omega (arith, c.split_at.ensures.back_len, at.invariant.whole);
      passed = omega (arith, c.front-byte.ensures.within.0, at.invariant.passed);
    }

pub returns-in-Some-bad-clause-value : goal.returns-in-Some-bad-clause-value
returns-in-Some-bad-clause-value c =
    let at = c.loop-rest in
    let none : at.rest.now ≡ [] = empty at.rest.now c.is_empty.result c.is_empty.ensures c.loop-rest-test.false in
    let last : spelled at.rest.now ≡ [] = ap spelled none ∙ spelled-nil in
    sym (at.invariant.same ∙ ap (spelling_fault c.args.bad at.index at.place) last ∙ ap (λ (o : Option ℕ). spelling_fault o at.index at.place []) c.in-Some-bad.is) ∙ read_first c.args.bad (spelled c.args.text.now)

pub returns-in-None-clause-value : goal.returns-in-None-clause-value
returns-in-None-clause-value c =
    let at = c.loop-rest in
    let none : at.rest.now ≡ [] = empty at.rest.now c.is_empty.result c.is_empty.ensures c.loop-rest-test.false in
    let last : spelled at.rest.now ≡ [] = ap spelled none ∙ spelled-nil in
    sym (at.invariant.same ∙ ap (spelling_fault c.args.bad at.index at.place) last ∙ ap (λ (o : Option ℕ). spelling_fault o at.index at.place []) c.in-None.is) ∙ read_first c.args.bad (spelled c.args.text.now)
