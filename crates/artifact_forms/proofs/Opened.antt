-- What the proofs of the readers open: the list of fields of an artifact, of an element, of a batch
-- or of a list, and what each field is.
use Rattle.std.specs.Prelude.{⊤}
use Rattle.json_fields.specs.Fields.{required, optional}
use Rattle.artifact_forms.specs.Files.{a_file}
use Rattle.artifact_forms.specs.Batches.{an_element, a_batch}
use Rattle.artifact_forms.specs.Listed.{a_list_request}

unfoldable pub fields : ⊤
unfolding a_file an_element a_batch a_list_request required optional
fields = tt
