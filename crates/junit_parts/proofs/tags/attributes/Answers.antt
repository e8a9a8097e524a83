use Rattle.std.proofs.Common.{◌≡◌, ◌<◌, ◌++◌, ◌∷◌, [], List, ℕ, length, map, true, false, Some, sym, ap, subst, ◌∙◌, arith}
use Rattle.std.proofs.lemmas.Result.{err_from_is_err_and}
use Rattle.std.proofs.lemmas.List.{map_push}
use Rattle.junit_parts.specs.Answers.{Fails}
use Rattle.junit_parts.specs.Bytes.{behind_white}
use Rattle.junit_parts.specs.Tags.{attribute_from, attribute_text, has_attribute}
use Rattle.junit_parts.proofs.TagLemmas.{one_more, breaks_off, all_read}
use Rattle.junit_parts.proofs.tags.attributes.Goals as goal

pub returns-in_err-attribute-clause-read : goal.returns-in_err-attribute-clause-read
returns-in_err-attribute-clause-read c =
    let p = err_from_is_err_and c.from_residual.result c.from_residual.ensures.1 in
    let at = c.loop-rest in
    let has : has_attribute at.rest.now ≡ true = sym c.has_attribute.ensures ∙ c.loop-rest-test.true in
    let P : List ℕ → Type 0 = λ t. Fails c.in_err-attribute.field-0.0 (attribute_from t) in
    let read : P (behind_white at.rest.now) = subst P c.behind_white.ensures.value c.in_err-attribute.ensures.read in
    rw (p.1, p.2) (breaks_off c.in_err-attribute.field-0.0 at.invariant.0 (map attribute_text at.attributes.items) at.rest.now _ at.invariant.1 at.invariant.2 has read)

pub loop-rest-preserved : goal.loop-rest-preserved
loop-rest-preserved c =
    let at = c.loop-rest in
    let a = c.in_ok-attribute.attribute in
    let e : map attribute_text c.push.new.self.items ≡ map attribute_text at.attributes.items ++ attribute_text a ∷ [] = rw c.in_ok-push.ensures.items (map_push _ at.attributes.items a) in
    let has : has_attribute at.rest.now ≡ true = sym c.has_attribute.ensures ∙ c.loop-rest-test.true in
    let read : attribute_from (behind_white at.rest.now) ≡ Some (attribute_text a, c.in_ok-attribute.behind.now) = ap attribute_from (sym c.behind_white.ensures.value) ∙ c.in_ok-attribute.ensures.read in
    let shorter : length c.in_ok-attribute.behind.now < length at.rest.now = omega (arith, c.in_ok-attribute.ensures.shorter, c.behind_white.ensures.within) in
    let more = one_more at.invariant.0 (map attribute_text at.attributes.items) (attribute_text a) at.rest.now c.in_ok-attribute.behind.now _ at.invariant.1 at.invariant.2 has read shorter in
    rw e (more.0, more.1, more.2, omega (arith, shorter, at.invariant.3))

pub returns-clause-read : goal.returns-clause-read
returns-clause-read c =
    let at = c.loop-rest in
    let has : has_attribute at.rest.now ≡ false = sym c.has_attribute.ensures ∙ c.loop-rest-test.false in
    all_read at.invariant.0 (map attribute_text at.attributes.items) at.rest.now _ at.invariant.2 has
