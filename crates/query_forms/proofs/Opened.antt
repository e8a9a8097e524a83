-- What the proofs of the readers open: a request's list of fields, and what each field is.
use Rattle.std.specs.Prelude.{⊤}
use Rattle.json_fields.specs.Fields.{required, optional}
use Rattle.query_forms.specs.Single.{a_single}
use Rattle.query_forms.specs.Results.{a_results_query}
use Rattle.query_forms.specs.Variants.{a_variants_query}

unfoldable pub request_fields : ⊤
unfolding a_single a_results_query a_variants_query required optional
request_fields = tt
