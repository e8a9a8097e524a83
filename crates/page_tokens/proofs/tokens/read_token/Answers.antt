use Rattle.std.proofs.Common.{map}
use Rattle.std.proofs.lemmas.Result.{err_from_is_err_and}
use Rattle.page_tokens.proofs.TokenLemmas.{fault_of, faulty, no_token, token_read}
use Rattle.page_tokens.proofs.tokens.read_token.Goals as goal

pub returns-in_err-bytes-clause-refused : goal.returns-in_err-bytes-clause-refused
returns-in_err-bytes-clause-refused g c =
    let p = err_from_is_err_and c.from_residual.result c.from_residual.ensures.1 in
    rw (p.1, p.2) (λ other held token. no_token c.args.query.now g.C.Cursor.number g.C.Cursor.form held c.args.text.now (c.in_err-bytes.ensures.err other).1 token)

pub returns-in_err-held-clause-refused : goal.returns-in_err-held-clause-refused
returns-in_err-held-clause-refused g c =
    let p = err_from_is_err_and c.from_residual-in_err-held.result c.from_residual-in_err-held.ensures.1 in
    rw (p.1, p.2) (λ other held token.
    let fault = rw (c.kind.ensures, c.parts.ensures, c.as_slice.ensures.value) at (c.in_err-held.ensures.fault other) in
    faulty c.args.query.now g.C.Cursor.number g.C.Cursor.form held c.args.text.now c.in_err-held.field-0.0 c.held_in.ensures.len
    (fault_of c.args.query.now g.C.Cursor.number g.C.Cursor.form c.args.text.now c.in_ok-bytes.bytes.items c.in_err-held.field-0.0 c.in_ok-bytes.ensures.ok.0 fault) token)

pub returns-clause-ok : goal.returns-clause-ok
returns-clause-ok g c =
    let are = rw (c.parts.ensures) at c.in_ok-held.ensures.ok.0 in
    let form = rw (c.kind.ensures, c.parts.ensures, c.as_slice.ensures.value) at c.in_ok-held.ensures.ok.1 in
    rw (c.in_ok-cursor.ensures, c.as_slice-2.ensures.value)
    (token_read c.args.query.now g.C.Cursor.number g.C.Cursor.form (map (λ h. h.now) c.in_ok-held.held.items) c.args.text.now c.in_ok-bytes.bytes.items
    are c.in_ok-bytes.ensures.ok.2 c.in_ok-bytes.ensures.ok.1 form)
