use Rattle.std.proofs.lemmas.Result.{IfOk-weaker}
use Rattle.page_tokens.proofs.TokenLemmas.{token_read}
use Rattle.page_tokens.proofs.tokens.write_token.Goals as goal

pub returns : goal.returns
returns g c =
    let are = c.in_ok-bytes.ensures.0 in
    let form = c.in_ok-bytes.ensures.1 in
    let bytes = rw (c.as_slice.ensures.value) at c.encoded.ensures.bytes in
    let text = rw (c.as_slice.ensures.value) at c.encoded.ensures.text in
    IfOk-weaker c.encoded.result _ _
    (λ t spelled. token_read c.args.query.now g.C.Cursor.number g.C.Cursor.form (g.C.Cursor.held c.args.cursor.now) _ c.in_ok-bytes.bytes.items
    are bytes spelled form)
    text
