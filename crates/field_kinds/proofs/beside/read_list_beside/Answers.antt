use Rattle.std.proofs.Common.{sym}
use Rattle.serde_json.proofs.Views.{view-Array}
use Rattle.json_fields.proofs.ListLaws.{list_of_view}
use Rattle.field_kinds.proofs.beside.read_list_beside.Goals as goal

pub returns-in-Array-clause-ok : goal.returns-in-Array-clause-ok
returns-in-Array-clause-ok g c = rw (c.in-Array.is, view-Array c.in-Array.list, list_of_view c.in-Array.list.items, sym c.deref.ensures.value) c.read_all_beside.ensures.ok

pub returns-in-Array-clause-err : goal.returns-in-Array-clause-err
returns-in-Array-clause-err g c = rw (c.in-Array.is, view-Array c.in-Array.list, list_of_view c.in-Array.list.items, sym c.deref.ensures.value) c.read_all_beside.ensures.err
