use Rattle.std.proofs.Common.{◌∙◌, ap, arith, Err}
use Rattle.std.proofs.lemmas.Result.{err_from_is_err_and}
use Rattle.http_wire.proofs.AnnouncedLaws.{too_many, faulty_fields, request_by}
use Rattle.http_wire.proofs.request.read_request.Goals as goal

pub returns-then-lines-gt-HEADER_LIMIT : goal.returns-then-lines-gt-HEADER_LIMIT
returns-then-lines-gt-HEADER_LIMIT c = too_many c.args.head.now c.args.lines c.if-lines-gt-HEADER_LIMIT.true

pub returns-in_err-len : goal.returns-in_err-len
returns-in_err-len c =
    let r = c.in-Some.ensures.reads in
    let p = err_from_is_err_and c.from_residual.result c.from_residual.ensures.1 in
    rw (p.1 ∙ ap Err p.2)
    (faulty_fields c.args.head.now c.read_head.new.headers c.in-Some.spans r.0 c.args.lines c.is_post-is_post.result _ r.1 r.2 (omega arith)
    c.is_post-is_post.ensures (c.in_err-len.ensures _ c.read_fields-fields.ensures))

pub returns : goal.returns
returns c =
    let r = c.in-Some.ensures.reads in
    let found = c.read_fields-fields.ensures in
    request_by c.args.head.now c.read_head.new.headers c.in-Some.spans r.0 c.args.lines _ _ r.1 r.2 (omega arith)
    c.is_post-is_post.ensures found.closes c.closes_after.ensures
    (c.in_ok-len.ensures _ found) (c.in-Ok.ensures.cases.0 ∙ c.of.ensures) (c.bearer_token.ensures _ found.authorization) (c.alone.ensures _ found.update_token)
