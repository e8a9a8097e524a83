-- The names of the members of what replies show of artifacts, beside those of requests.
use Rattle.std.specs.Prelude.{codes}
use Rattle.json_fields.specs.Names.{NameForm, named, word}

abbrev pub artifacts : NameForm
artifacts = word (codes "artifacts")

abbrev pub next_page_token : NameForm
next_page_token = named (codes "nextPageToken") (codes "next_page_token")
