use Rattle.std.proofs.Common.{◌≡◌, arith, sym, subst, length, take, Some}
use Rattle.http_wire.specs.Scan.{head_end}
use Rattle.http_wire.specs.Announced.{IsRequest, IsFaulty}
use Rattle.http_wire.proofs.NextLaws.{front_at, faulty_head, lacks_body}
use Rattle.http_wire.proofs.PlainLaws.{first_request}
use Rattle.http_wire.proofs.plain.behind_head.Goals as goal

pub split_at-requires : goal.split_at-requires
split_at-requires c = (front_at _ _ _ c.requires.ends).fits

pub read_request-requires : goal.read_request-requires
read_request-requires c =
    subst (λ z. head_end z ≡ Some (length z, c.args.end.lines)) (sym c.split_at.ensures.front) (front_at _ _ _ c.requires.ends).ends

pub returns-in-Err : goal.returns-in-Err
returns-in-Err c =
    faulty_head _ _ _ _ (front_at _ _ _ c.requires.ends) c.requires.short
    (subst (λ z. IsFaulty z c.args.end.lines c.in-Err.fault) c.split_at.ensures.front c.in-Err.ensures)

pub returns-then-rest-request : goal.returns-then-rest-request
returns-then-rest-request c =
    let back = c.split_at.ensures.back_len in
    let q : IsRequest (take c.args.end.len c.args.stream.now) c.args.end.lines c.in-Ok.request =
    subst (λ z. IsRequest z c.args.end.lines c.in-Ok.request) c.split_at.ensures.front c.in-Ok.ensures in
    rw c.cut_short.ensures (lacks_body _ _ _ _ (front_at _ _ _ c.requires.ends) c.requires.short q (omega (arith, back)))

pub returns : goal.returns
returns c =
    let back = c.split_at.ensures.back_len in
    let q : IsRequest (take c.args.end.len c.args.stream.now) c.args.end.lines c.in-Ok.request =
    subst (λ z. IsRequest z c.args.end.lines c.in-Ok.request) c.split_at.ensures.front c.in-Ok.ensures in
    first_request c.args.stream.now c.args.end.len c.args.end.lines c.in-Ok.request c.requires.ends c.requires.short q (omega (arith, back))
