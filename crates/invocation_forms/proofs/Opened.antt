-- What the proofs of the readers open: a request's list of fields, and what each field is.
use Rattle.std.specs.Prelude.{⊤}
use Rattle.json_fields.specs.Fields.{required, optional}
use Rattle.invocation_forms.specs.Create.{a_new_invocation, a_create_request}
use Rattle.invocation_forms.specs.Included.{an_include_request}

unfoldable pub request_fields : ⊤
unfolding a_new_invocation a_create_request an_include_request required optional
request_fields = tt
