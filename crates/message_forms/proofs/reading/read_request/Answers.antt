use Rattle.std.proofs.Common.{sym, ◌∙◌}
use Rattle.serde_json.specs.View.{view}
use Rattle.message_forms.specs.Reading.{not_json, in_field}
use Rattle.message_forms.proofs.reading.read_request.Goals as goal

pub returns-in-Err-clause-err : goal.returns-in-Err-clause-err
returns-in-Err-clause-err c = λ no. let is = c.in-Err.ensures.err no in not_json c.in-Some.method (sym c.of.ensures ∙ c.in-Some.is) is.1 is.0

pub returns-clause-err : goal.returns-clause-err
returns-clause-err c = λ no.
    in_field c.in-Some.method (sym c.of.ensures ∙ c.in-Some.is) (view c.in-Ok.value) c.in-Ok.ensures.ok (c.in-Err-read_value.ensures.err no)
