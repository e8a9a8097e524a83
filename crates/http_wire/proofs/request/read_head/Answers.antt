use Rattle.std.proofs.Common.{◌≡◌, ℕ, ◌≤◌, length, [], IfSome, List, ap, ◌∙◌, sym, append-nil}
use Rattle.http_wire.specs.Scan.{head_end}
use Rattle.http_wire.proofs.RequestLaws.{request_ends}
use Rattle.httparse.specs.Grammar.{RequestHead, ReadsRequest, print_request}
use Rattle.http_wire.proofs.request.read_head.Goals as goal

-- the fields of a head that is all of the bytes have room
fits : (head : List ℕ) (room : ℕ) (h : RequestHead) → IfSome (head_end head) (λ e. e.1 ≤ room) → ReadsRequest head h [] → length h.fields ≤ room
fits head room h small x = rw (request_ends head h [] x) at small

pub returns-in_default-clause-reads : goal.returns-in_default-clause-reads
returns-in_default-clause-reads c h x =
    let at = rw (c.in-Ok-Complete.is, c.in-Ok-Complete.field-0-is) at (c.parse_request.ensures.found h [] x (fits _ _ h c.requires x)) in
    let whole : length c.args.head.now ≡ length (print_request h) = ap length (x.1 ∙ append-nil (print_request h)) in
    c.if-spans-head.false (at.len ∙ sym whole)

pub returns-in_default-3-clause-reads : goal.returns-in_default-3-clause-reads
returns-in_default-3-clause-reads c h x =
    rw c.in_default.is at (c.parse_request.ensures.found h [] x (fits _ _ h c.requires x))
