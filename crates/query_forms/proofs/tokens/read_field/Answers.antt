use Rattle.std.proofs.Common.{Option, sym, subst, ◌∙◌}
use Rattle.serde_json.specs.View.{view}
use Rattle.json_fields.specs.Faults.{Says}
use Rattle.json_fields.specs.Fields.{filled, HoldsMaybe}
use Rattle.json_fields.specs.Kinds.{empty_text}
use Rattle.json_fields.specs.declared.faults.FieldFault.{FieldFault}
use Rattle.field_kinds.proofs.FilledLaws.{filled_fault, some_filled, none_filled}
use Rattle.query_forms.specs.Tokens.{CursorForm, IsCursor, a_token, cursors}
use Rattle.query_forms.specs.declared.tokens.PageToken.{PageToken}
use Rattle.query_forms.proofs.tokens.read_field.Goals as goal

pub returns-in-Ok-Some-clause-ok : goal.returns-in-Ok-Some-clause-ok
returns-in-Ok-Some-clause-ok g c =
    let f : CursorForm g.row.C.Denot = cursors g.C.Cursor.number g.C.Cursor.form g.C.Cursor.held g.C.PageCursor.fits in (
      sym (filled_fault c.args.name empty_text (a_token f c.args.query.now) (view c.args.value.now)) ∙ c.in-Ok-Some.ensures.ok.0,
      some_filled (IsCursor f c.args.query.now) empty_text (λ (x : PageToken g.row.C.Denot). x.cursor) c.args.name (view c.args.value.now) c.in-Ok-Some.found
          (rw c.in-Ok-Some.field-0-is at c.in-Ok-Some.ensures.ok.1),
    )

pub returns-in-Ok-None-clause-ok : goal.returns-in-Ok-None-clause-ok
returns-in-Ok-None-clause-ok g c =
    let f : CursorForm g.row.C.Denot = cursors g.C.Cursor.number g.C.Cursor.form g.C.Cursor.held g.C.PageCursor.fits in (
      sym (filled_fault c.args.name empty_text (a_token f c.args.query.now) (view c.args.value.now)) ∙ c.in-Ok-None.ensures.ok.0,
      none_filled (IsCursor f c.args.query.now) (λ e (x : PageToken g.row.C.Denot). HoldsMaybe (IsCursor f c.args.query.now) (filled empty_text e) x.cursor) empty_text c.args.name
          (view c.args.value.now) (rw c.in-Ok-None.field-0-is at c.in-Ok-None.ensures.ok.1),
    )

pub returns-in-Err-clause-err : goal.returns-in-Err-clause-err
returns-in-Err-clause-err g c =
    let f : CursorForm g.row.C.Denot = cursors g.C.Cursor.number g.C.Cursor.form g.C.Cursor.held g.C.PageCursor.fits in
    subst (λ (o : Option FieldFault). Says c.in-Err.fault o) (filled_fault c.args.name empty_text (a_token f c.args.query.now) (view c.args.value.now)) c.in-Err.ensures.err
