-- The names of the members of batches and of their rows, each in lowerCamelCase and as the proto
-- spells it.
use Rattle.std.specs.Prelude.{codes}
use Rattle.json_fields.specs.Names.{NameForm, named, word}

abbrev pub invocation : NameForm
invocation = word (codes "invocation")

abbrev pub request_id : NameForm
request_id = named (codes "requestId") (codes "request_id")

abbrev pub requests : NameForm
requests = word (codes "requests")

abbrev pub test_result : NameForm
test_result = named (codes "testResult") (codes "test_result")

abbrev pub test_exoneration : NameForm
test_exoneration = named (codes "testExoneration") (codes "test_exoneration")

abbrev pub test_id : NameForm
test_id = named (codes "testId") (codes "test_id")

abbrev pub result_id : NameForm
result_id = named (codes "resultId") (codes "result_id")

abbrev pub variant : NameForm
variant = word (codes "variant")

abbrev pub expected : NameForm
expected = word (codes "expected")

abbrev pub status : NameForm
status = word (codes "status")

abbrev pub summary_html : NameForm
summary_html = named (codes "summaryHtml") (codes "summary_html")

abbrev pub start_time : NameForm
start_time = named (codes "startTime") (codes "start_time")

abbrev pub duration : NameForm
duration = word (codes "duration")

abbrev pub tags : NameForm
tags = word (codes "tags")

abbrev pub failure_reason : NameForm
failure_reason = named (codes "failureReason") (codes "failure_reason")

abbrev pub primary_error_message : NameForm
primary_error_message = named (codes "primaryErrorMessage") (codes "primary_error_message")

abbrev pub properties : NameForm
properties = word (codes "properties")

abbrev pub explanation_html : NameForm
explanation_html = named (codes "explanationHtml") (codes "explanation_html")

abbrev pub name : NameForm
name = word (codes "name")

abbrev pub variant_hash : NameForm
variant_hash = named (codes "variantHash") (codes "variant_hash")

abbrev pub exoneration_id : NameForm
exoneration_id = named (codes "exonerationId") (codes "exoneration_id")
