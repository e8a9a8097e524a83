use Rattle.std.proofs.Common.{Option, sym, subst, ◌∙◌}
use Rattle.serde_json.specs.View.{view}
use Rattle.json_fields.specs.Faults.{Says}
use Rattle.json_fields.specs.Fields.{filled, HoldsMaybe}
use Rattle.json_fields.specs.declared.faults.FieldFault.{FieldFault}
use Rattle.field_kinds.specs.declared.filled.Filled.{Filled}
use Rattle.field_kinds.proofs.FilledLaws.{filled_fault, some_filled, none_filled}
use Rattle.field_kinds.proofs.filled.optional_filled.Goals as goal

pub returns-in-Ok-Some-clause-ok : goal.returns-in-Ok-Some-clause-ok
returns-in-Ok-Some-clause-ok g c = (
  sym (filled_fault c.args.name g.T.Form.empty g.T.Form.fault (view c.args.value.now)) ∙ c.in-Ok-Some.ensures.ok.0,
  some_filled g.T.Form.means g.T.Form.empty (λ (x : Filled g.row.T.Denot). x.value) c.args.name (view c.args.value.now) c.in-Ok-Some.found (rw c.in-Ok-Some.field-0-is at c.in-Ok-Some.ensures.ok.1),
)

pub returns-in-Ok-None-clause-ok : goal.returns-in-Ok-None-clause-ok
returns-in-Ok-None-clause-ok g c = (
  sym (filled_fault c.args.name g.T.Form.empty g.T.Form.fault (view c.args.value.now)) ∙ c.in-Ok-None.ensures.ok.0,
  none_filled g.T.Form.means (λ e (x : Filled g.row.T.Denot). HoldsMaybe g.T.Form.means (filled g.T.Form.empty e) x.value) g.T.Form.empty c.args.name (view c.args.value.now) (rw c.in-Ok-None.field-0-is at c.in-Ok-None.ensures.ok.1),
)

pub returns-in-Err-clause-err : goal.returns-in-Err-clause-err
returns-in-Err-clause-err g c =
    subst (λ (o : Option FieldFault). Says c.in-Err.fault o) (filled_fault c.args.name g.T.Form.empty g.T.Form.fault (view c.args.value.now)) c.in-Err.ensures.err
