use Rattle.std.proofs.Common.{List, ℕ, subst}
use Rattle.page_tokens.specs.Tokens.{IsToken}
use Rattle.query_forms.specs.Tokens.{CursorForm, cursors}
use Rattle.query_forms.proofs.TokenLaws.{token_written}
use Rattle.query_forms.proofs.tokens.token_of.Goals as goal

pub returns-clause-text : goal.returns-clause-text
returns-clause-text g c = c.in_ok-text.ensures.spelling

pub returns-clause-again : goal.returns-clause-again
returns-clause-again g c =
    let f : CursorForm g.row.C.Denot = cursors g.C.Cursor.number g.C.Cursor.form g.C.Cursor.held g.C.PageCursor.fits in
    let is = c.in_ok-text.ensures in
    token_written f c.args.query.now c.args.cursor.now c.as_slice-hash.ensures.len
    (record {
      is_token = subst (λ (text : List ℕ). IsToken c.args.query.now f.number f.parts (f.held c.args.cursor.now) text) is.spelling is;
      fits = c.keep_bounds.ensures;
    })
