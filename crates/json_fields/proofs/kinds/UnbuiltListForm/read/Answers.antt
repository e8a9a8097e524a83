use Rattle.std.proofs.Common.{sym, ◌∙◌}
use Rattle.serde_json.proofs.Views.{view-Array}
use Rattle.json_fields.proofs.ListLaws.{unbuilt_view}
use Rattle.json_fields.proofs.kinds.UnbuiltListForm.read.Goals as goal

pub returns-else-is_empty-clause-err : goal.returns-else-is_empty-clause-err
returns-else-is_empty-clause-err c =
    rw (c.in-Array.is, view-Array c.in-Array.list, unbuilt_view c.in-Array.list.items (rw (← c.as_slice.ensures.value) (sym c.is_empty.ensures ∙ c.if-is_empty.false))) c.here.ensures.says
