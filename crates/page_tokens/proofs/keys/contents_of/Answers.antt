use Rattle.std.proofs.Common.{◌≡◌, ◌+◌, ◌-◌, List, ℕ, length, map, take, sym, ap, subst, ◌∙◌}
use Rattle.std.proofs.lemmas.List.{map_push}
use Rattle.page_tokens.specs.declared.keys.KeyPart.TheVariants.{Plain}
use Rattle.page_tokens.proofs.KeyLemmas.{HoldsSoFar, breaks_end, breaks_part, holds_next, not_bare, told_place}
use Rattle.page_tokens.proofs.keys.contents_of.Goals as goal

pub returns-in-Err-clause-fault : goal.returns-in-Err-clause-fault
returns-in-Err-clause-fault c at e =
    let same : length c.args.key.now - length c.loop-part.rest.now + c.in-Err.at ≡ at = cc in
    told_place c.args.parts.now c.args.key.now _ at same
    (breaks_part c.args.parts.now c.loop-part.part-index (map (λ h. h.now) c.loop-part.held.items) c.loop-part.rest.now c.args.key.now c.loop-part.invariant
    (Plain 0) c.in-Err.at c.loop-part-test.true c.in-Err.ensures.err c.in-Err.ensures.within)

pub loop-part-preserved : goal.loop-part-preserved
loop-part-preserved c =
    let pushed : map (λ h. h.now) c.push.new.self.items ≡ _ =
    ap (map (λ h. h.now)) c.in_ok-push-in-Ok.ensures.items ∙ map_push (λ h. h.now) c.loop-part.held.items c.in-Ok.front.content in
    subst (λ (cs : List (List ℕ)). HoldsSoFar (take (c.loop-part.part-index + 1) c.args.parts.now) cs c.in-Ok.front.rest.now c.args.key.now) (sym pushed)
    (holds_next c.args.parts.now c.loop-part.part-index (map (λ h. h.now) c.loop-part.held.items) c.loop-part.rest.now c.args.key.now c.loop-part.invariant
    (Plain 0) c.in-Ok.front.content.now c.in-Ok.front.rest.now c.loop-part-test.true c.in-Ok.ensures.ok.0 c.in-Ok.ensures.ok.1)

pub returns-clause-fault : goal.returns-clause-fault
returns-clause-fault c at e =
    let same : length c.args.key.now - length c.loop-part.rest.now ≡ at = cc in
    told_place c.args.parts.now c.args.key.now _ at same
    (breaks_end c.args.parts.now c.loop-part.part-index (map (λ h. h.now) c.loop-part.held.items) c.loop-part.rest.now c.args.key.now c.loop-part.invariant
    c.loop-part-test.false (not_bare c.loop-part.rest.now (sym c.is_empty.ensures ∙ c.if-is_empty.false)))
