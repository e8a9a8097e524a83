-- The names of the members of replies to queries, each in lowerCamelCase and as the proto spells
-- it.
use Rattle.std.specs.Prelude.{codes}
use Rattle.json_fields.specs.Names.{NameForm, named, word}

abbrev pub is_masked : NameForm
is_masked = named (codes "isMasked") (codes "is_masked")

abbrev pub test_results : NameForm
test_results = named (codes "testResults") (codes "test_results")

abbrev pub test_variants : NameForm
test_variants = named (codes "testVariants") (codes "test_variants")

abbrev pub next_page_token : NameForm
next_page_token = named (codes "nextPageToken") (codes "next_page_token")

abbrev pub results : NameForm
results = word (codes "results")

abbrev pub outcome : NameForm
outcome = word (codes "result")

abbrev pub exonerations : NameForm
exonerations = word (codes "exonerations")
