use Rattle.std.proofs.Common.{◌≡◌, ◌+◌, ◌∙◌, ap, drop, take, subst, sym}
use Rattle.std.proofs.lemmas.List.{drop-take}
use Rattle.http_wire.specs.Says.{IsMessageOf}
use Rattle.http_wire.specs.Stream.{Framed}
use Rattle.http_wire.specs.declared.message.End.TheVariants.{Closed}
use Rattle.http_wire.proofs.PlainLaws.{SoFar, so_far_more, so_far_all, so_far_closed}
use Rattle.http_wire.proofs.plain.read_stream.Goals as goal

pub messages-preserved : goal.messages-preserved
messages-preserved c =
    let head = c.in-Message.head in
    let len = c.in-Message.request.len in
    let rest = c.messages.rest.now in
    let first = c.in-Message.ensures in
    let body : c.in_ok-body-in-Message.body.items ≡ take len (drop head rest) =
    c.in_ok-body-in-Message.ensures.items ∙ c.split_at-in-Message.ensures.back ∙ ap (λ x. drop head x) c.split_at.ensures.front ∙ drop-take head len rest in
    let says = c.with_body.ensures first.h (c.in_ok-message-in-Message.ensures first.h first.said) in
    let told = subst (λ b. IsMessageOf first.h b c.with_body.result) body says in
    let more = so_far_more _ _ _ _ c.with_body.result _ _ _ c.messages.invariant first (first.message c.with_body.result told) told (sym c.closes.ensures ∙ c.if-closes.false) in
    subst (λ z. SoFar c.args.stream.now z (c.messages.before + 1) c.split_at.result.1.now) (sym c.in_ok-push-in-Message.ensures.items) (rw c.split_at.ensures.back more)

pub returns-in-End : goal.returns-in-End
returns-in-End c = so_far_all _ _ _ _ _ c.messages.invariant c.in-End.ensures

pub returns-then-closes : goal.returns-then-closes
returns-then-closes c =
    let head = c.in-Message.head in
    let len = c.in-Message.request.len in
    let rest = c.messages.rest.now in
    let first = c.in-Message.ensures in
    let body : c.in_ok-body-in-Message.body.items ≡ take len (drop head rest) =
    c.in_ok-body-in-Message.ensures.items ∙ c.split_at-in-Message.ensures.back ∙ ap (λ x. drop head x) c.split_at.ensures.front ∙ drop-take head len rest in
    let says = c.with_body.ensures first.h (c.in_ok-message-in-Message.ensures first.h first.said) in
    let told = subst (λ b. IsMessageOf first.h b c.with_body.result) body says in
    subst (λ z. Framed c.args.stream.now z Closed) (sym c.in_ok-push-in-Message.ensures.items)
    (so_far_closed _ _ _ _ c.with_body.result _ _ _ c.messages.invariant first (first.message c.with_body.result told) told (sym c.closes.ensures ∙ c.if-closes.true))
