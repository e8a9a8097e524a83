use Rattle.std.proofs.Common.{◌≡◌, ◌∙◌, ap, arith, sym, subst, length, take, Some, Err}
use Rattle.std.proofs.lemmas.Result.{err_from_is_err_and}
use Rattle.http_wire.specs.Scan.{head_end}
use Rattle.http_wire.specs.Announced.{IsFaulty, IsRequest}
use Rattle.http_wire.proofs.NextLaws.{front_at, framing_at, in_limits, reading_at_head_fault, reading_at_faulty_head, reading_at_body_fault, reading_at_no_memory, reading_of_message}
use Rattle.http_wire.proofs.wire.next_message.Goals as goal

pub returns-in_err-end-clause-reading : goal.returns-in_err-end-clause-reading
returns-in_err-end-clause-reading g c =
    let p = err_from_is_err_and c.from_residual.result c.from_residual.ensures.1 in
    reading_at_head_fault _ _ _ _ _ _ c.in_err-end.ensures.finds (p.1 ∙ ap Err p.2)

pub slice_bounds-head-end : goal.slice_bounds-head-end
slice_bounds-head-end g c =
    let ends = rw c.in-Some.is at c.in_ok-end.ensures.finds.answer in
    (front_at _ _ _ ends).many ∙ ap (λ z. length (take c.in-Some.end.len z)) (sym c.as_slice.ensures.value)

pub read_request-requires : goal.read_request-requires
read_request-requires g c =
    let ends = rw c.in-Some.is at c.in_ok-end.ensures.finds.answer in
    subst (λ z. head_end (take c.in-Some.end.len z) ≡ Some (length (take c.in-Some.end.len z), c.in-Some.end.lines)) (sym c.as_slice.ensures.value)
    (front_at _ _ _ ends).ends

pub returns-in_err-request-clause-reading : goal.returns-in_err-request-clause-reading
returns-in_err-request-clause-reading g c =
    let finds = rw c.in-Some.is at c.in_ok-end.ensures.finds in
    let p = err_from_is_err_and c.from_residual-in_err-request.result c.from_residual-in_err-request.ensures.1 in
    let faulty = subst (λ z. IsFaulty (take c.in-Some.end.len z) c.in-Some.end.lines c.in_err-request.field-0.0) c.as_slice.ensures.value c.in_err-request.ensures in
    reading_at_faulty_head _ _ _ _ _ _ _ finds (front_at _ _ _ finds.answer) faulty (p.1 ∙ ap Err p.2)

pub take_body-requires-clause-head : goal.take_body-requires-clause-head
take_body-requires-clause-head g c =
    let ends = rw c.in-Some.is at c.in_ok-end.ensures.finds.answer in
    (front_at _ _ _ ends).fits

pub take_body-requires-clause-fits : goal.take_body-requires-clause-fits
take_body-requires-clause-fits g c =
    let finds = c.in_ok-end.ensures.finds in
    let ends = rw c.in-Some.is at finds.answer in
    let q : IsRequest (take c.in-Some.end.len c.find_head.new.buffer) c.in-Some.end.lines c.in_ok-request.request =
    subst (λ z. IsRequest (take c.in-Some.end.len z) c.in-Some.end.lines c.in_ok-request.request) c.as_slice.ensures.value c.in_ok-request.ensures in
    let limits = in_limits _ _ _ _ (framing_at _ _ _ _ ends finds.short q) in
    omega (arith, limits)

pub returns-in_err-body-clause-reading : goal.returns-in_err-body-clause-reading
returns-in_err-body-clause-reading g c =
    let finds = rw c.in-Some.is at c.in_ok-end.ensures.finds in
    let q : IsRequest (take c.in-Some.end.len c.find_head.new.buffer) c.in-Some.end.lines c.in_ok-request.request =
    subst (λ z. IsRequest (take c.in-Some.end.len z) c.in-Some.end.lines c.in_ok-request.request) c.as_slice.ensures.value c.in_ok-request.ensures in
    let p = err_from_is_err_and c.from_residual-in_err-body.result c.from_residual-in_err-body.ensures.1 in
    reading_at_body_fault _ _ _ _ _ _ _ _ _ _ finds (framing_at _ _ _ _ finds.answer finds.short q) c.in_err-body.ensures.taken (p.1 ∙ ap Err p.2)

pub returns-in_err-message-clause-reading : goal.returns-in_err-message-clause-reading
returns-in_err-message-clause-reading g c =
    let finds = rw c.in-Some.is at c.in_ok-end.ensures.finds in
    let p = err_from_is_err_and c.from_residual-in_err-message.result c.from_residual-in_err-message.ensures.1 in
    reading_at_no_memory _ _ _ _ _ _ finds (p.1 ∙ ap Err p.2)

pub returns-clause-reading : goal.returns-clause-reading
returns-clause-reading g c =
    let finds = rw c.in-Some.is at c.in_ok-end.ensures.finds in
    let q : IsRequest (take c.in-Some.end.len c.find_head.new.buffer) c.in-Some.end.lines c.in_ok-request.request =
    subst (λ z. IsRequest (take c.in-Some.end.len z) c.in-Some.end.lines c.in_ok-request.request) c.as_slice.ensures.value c.in_ok-request.ensures in
    let says = c.with_body.ensures q.h (c.in_ok-message.ensures q.h q.said) in
    reading_of_message _ _ _ _ _ _ _ _ _ _ finds (framing_at _ _ _ _ finds.answer finds.short q) q c.in_ok-body.ensures.taken says
