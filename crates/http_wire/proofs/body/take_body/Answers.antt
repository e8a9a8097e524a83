use Rattle.std.proofs.Common.{◌≡◌, ◌∙◌, ◌+◌, ◌-◌, ◌≤◌, ap, arith, refl, length, drop}
use Rattle.std.specs.Prelude.{slice_range}
use Rattle.std.proofs.lemmas.Slice.{between_to_end}
use Rattle.http_wire.proofs.BodyLaws.{taken_held, taken_read}
use Rattle.http_wire.proofs.body.take_body.Goals as goal

pub returns-then-len-stored-clause-taken : goal.returns-then-len-stored-clause-taken
returns-then-len-stored-clause-taken g c =
    let head = c.args.head in
    let len = c.args.len in
    let held = c.args.buffer.now in
    let all = ap length c.as_slice.ensures.value in
    let fits : head + len ≤ length held = omega (arith, all) in
    taken_held held c.advance.new.self (g.L.Link.ends c.args.link.now).incoming head len c.in_ok-body.body fits
    (c.in_ok-body.ensures.items ∙ ap (λ x. slice_range x head (head + len)) c.as_slice-then-len-stored.ensures.value) c.advance.ensures

pub returns-clause-taken : goal.returns-clause-taken
returns-clause-taken g c =
    let head = c.args.head in
    let held = c.args.buffer.now in
    let all = ap length c.as_slice.ensures.value in
    let stored = length c.as_slice.result.now - head in
    let is : stored ≡ length held - head = omega (arith, all) in
    let s2 = c.as_slice-2.result.now in
    let part : slice_range s2 head (length s2) ≡ drop head held =
    between_to_end s2 head (length s2) (omega arith) ∙ ap (λ x. drop head x) c.as_slice-2.ensures.value in
    taken_read held c.advance-2.new.self c.in_ok-body-2.body.items c.fill_body.new.body.items (g.L.Link.ends c.args.link.now).incoming
    (g.L.Link.ends c.fill_body.new.link).incoming head stored c.args.len c.in_ok-fill_body.field-0 c.fill_body.new.body c.requires.head is
    c.if-len-stored.false (c.in_ok-body-2.ensures ∙ part) c.in_ok-fill_body.ensures.filled refl c.advance-2.ensures
