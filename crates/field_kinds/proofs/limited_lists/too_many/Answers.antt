use Rattle.std.proofs.Common.{sym}
use Rattle.serde_json.proofs.Views.{view-Array}
use Rattle.field_kinds.proofs.ListLaws.{length_of_view}
use Rattle.field_kinds.proofs.limited_lists.too_many.Goals as goal

pub returns-in-Array : goal.returns-in-Array
returns-in-Array c = rw (c.in-Array.is, view-Array c.in-Array.list, length_of_view c.in-Array.list.items, sym c.deref.ensures.value) c.over.ensures
