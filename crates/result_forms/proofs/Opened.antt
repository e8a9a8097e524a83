-- What the proofs of the readers open: the list of fields of an element, of a row or of a batch, and
-- what each field is.
use Rattle.std.specs.Prelude.{⊤}
use Rattle.json_fields.specs.Fields.{required, optional}
use Rattle.result_forms.specs.Batches.{an_element, a_batch}
use Rattle.result_forms.specs.Exonerations.{an_exoneration}
use Rattle.result_forms.specs.Results.{a_what, a_more}

unfoldable pub fields : ⊤
unfolding an_element a_batch an_exoneration a_what a_more required optional
fields = tt
