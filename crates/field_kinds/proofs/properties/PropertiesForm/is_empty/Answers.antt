use Rattle.serde_json.proofs.Views.{view-Object}
use Rattle.field_kinds.proofs.ObjectLaws.{empty_is}
use Rattle.field_kinds.proofs.properties.PropertiesForm.is_empty.Goals as goal

pub returns-in-Object : goal.returns-in-Object
returns-in-Object c =
    rw (c.in-Object.is, view-Object c.in-Object.map) (empty_is c.in-Object.map.entries c.is_empty.result (c.is_empty.ensures).0 (c.is_empty.ensures).1)
