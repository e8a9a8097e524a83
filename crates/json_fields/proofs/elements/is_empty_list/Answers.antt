use Rattle.std.proofs.Common.{sym}
use Rattle.serde_json.proofs.Views.{view-Array}
use Rattle.json_fields.proofs.ListLaws.{no_items_in-view}
use Rattle.json_fields.proofs.elements.is_empty_list.Goals as goal

pub returns-in-Array : goal.returns-in-Array
returns-in-Array c = rw (c.in-Array.is, view-Array c.in-Array.list, no_items_in-view c.in-Array.list.items, sym c.as_slice.ensures.value) c.is_empty.ensures
