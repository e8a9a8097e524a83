-- The names of the members of queries, each in lowerCamelCase and as the proto spells it.
use Rattle.std.specs.Prelude.{codes}
use Rattle.json_fields.specs.Names.{NameForm, named, word}

abbrev pub name : NameForm
name = word (codes "name")

abbrev pub invocations : NameForm
invocations = word (codes "invocations")

abbrev pub result_limit : NameForm
result_limit = named (codes "resultLimit") (codes "result_limit")

abbrev pub page_size : NameForm
page_size = named (codes "pageSize") (codes "page_size")

abbrev pub page_token : NameForm
page_token = named (codes "pageToken") (codes "page_token")

abbrev pub predicate : NameForm
predicate = word (codes "predicate")

abbrev pub read_mask : NameForm
read_mask = named (codes "readMask") (codes "read_mask")

abbrev pub order_by : NameForm
order_by = named (codes "orderBy") (codes "order_by")
