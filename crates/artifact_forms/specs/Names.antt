-- The names of the members of requests for artifacts and of what replies show of one, each in
-- lowerCamelCase and as the proto spells it.
use Rattle.std.specs.Prelude.{codes}
use Rattle.json_fields.specs.Names.{NameForm, named, word}

abbrev pub request_id : NameForm
request_id = named (codes "requestId") (codes "request_id")

abbrev pub requests : NameForm
requests = word (codes "requests")

abbrev pub parent : NameForm
parent = word (codes "parent")

abbrev pub artifact : NameForm
artifact = word (codes "artifact")

abbrev pub artifact_id : NameForm
artifact_id = named (codes "artifactId") (codes "artifact_id")

abbrev pub content_type : NameForm
content_type = named (codes "contentType") (codes "content_type")

abbrev pub contents : NameForm
contents = word (codes "contents")

abbrev pub size_bytes : NameForm
size_bytes = named (codes "sizeBytes") (codes "size_bytes")

abbrev pub hash : NameForm
hash = word (codes "hash")

abbrev pub name : NameForm
name = word (codes "name")

abbrev pub page_size : NameForm
page_size = named (codes "pageSize") (codes "page_size")

abbrev pub page_token : NameForm
page_token = named (codes "pageToken") (codes "page_token")
