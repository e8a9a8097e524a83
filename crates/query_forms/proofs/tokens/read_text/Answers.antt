use Rattle.query_forms.specs.Tokens.{CursorForm, IsTokenOf, cursors}
use Rattle.query_forms.proofs.TokenLaws.{token_right}
use Rattle.query_forms.proofs.tokens.read_text.Goals as goal

pub returns-in-Ok-clause-ok : goal.returns-in-Ok-clause-ok
returns-in-Ok-clause-ok g c =
    let f : CursorForm g.row.C.Denot = cursors g.C.Cursor.number g.C.Cursor.form g.C.Cursor.held g.C.PageCursor.fits in
    let is : IsTokenOf f c.args.query.now c.args.text.now c.in-Ok.cursor = record {
      is_token = rw (c.as_bytes.ensures.value) at c.in-Ok.ensures.ok;
      fits = c.keep_bounds.ensures;
    } in
    (token_right f c.args.query.now c.args.text.now c.in-Ok.cursor c.as_slice-hash.ensures.len is, is)
