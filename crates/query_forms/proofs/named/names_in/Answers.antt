use Rattle.std.proofs.Common.{sym}
use Rattle.serde_json.proofs.Views.{view-Array}
use Rattle.json_fields.proofs.ListLaws.{list_of_view}
use Rattle.query_forms.proofs.named.names_in.Goals as goal

pub returns-in-Array : goal.returns-in-Array
returns-in-Array c = rw (c.in-Array.is, view-Array c.in-Array.values, list_of_view c.in-Array.values.items, sym c.deref.ensures.value) c.texts_of.ensures
