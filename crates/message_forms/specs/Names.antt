-- The names of the members of replies of batches, each in lowerCamelCase and as the proto spells
-- it.
use Rattle.std.specs.Prelude.{codes}
use Rattle.json_fields.specs.Names.{NameForm, named}

abbrev pub test_results : NameForm
test_results = named (codes "testResults") (codes "test_results")

abbrev pub test_exonerations : NameForm
test_exonerations = named (codes "testExonerations") (codes "test_exonerations")
