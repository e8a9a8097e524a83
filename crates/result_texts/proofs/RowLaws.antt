-- The tokens of rows, member by member in byte order of the names.
use Rattle.std.proofs.Common.{◌≡◌, ℕ, true, List, [], ◌∷◌, ◌++◌, codes, Option, Some, None, option_map, refl, sym, ap, ◌∙◌}
use Rattle.json.specs.Token.{begin_object, end_object}
use Rattle.serde_json.specs.Data.{Data, string, object, Members, no_members}
use Rattle.json_fields.specs.Names.{NameForm}
use Rattle.json_fields.specs.Writing.{put_optional}
use Rattle.json_fields.specs.NamesRealms.Variants.{label_of}
use Rattle.test_results.specs.declared.result.TestResult.{TestResult}
use Rattle.test_results.specs.declared.exoneration.TestExoneration.{TestExoneration}
use Rattle.result_forms.specs.TextKinds.Statuses.{status_name}
use Rattle.form_fields.specs.Members.{put_some, put_all, object_of}
use Rattle.result_forms.specs.Names as name
use Rattle.result_forms.specs.Results.{result_members}
use Rattle.result_forms.specs.Exonerations.{exoneration_members}
use Rattle.result_forms.specs.Replies.{name_of_result, result_data, exoneration_id, name_of_exoneration, exoneration_data}
use Rattle.result_forms.specs.Shown.{text_shown, flag_shown, tags_shown, variant_shown, reason_shown, properties_shown, moment_data, span_data}
use Rattle.token_texts.specs.Tokens.{tokens_of, member_tokens}
use Rattle.token_texts.proofs.ObjectLaws.{Listed, put_all as members_of, in_order, can_rise, all_tokens, object_tokens}

same : (n : NameForm) (o : Option Data) (ms : Members) → put_some n o ms ≡ put_optional n (λ (d : Data). d) o ms
same n None ms = refl
same n (Some d) ms = refl

all_same : (ms : Listed) → put_all ms no_members ≡ members_of ms no_members
all_same [] = refl
all_same (m ∷ rest) = ap (put_some m.0 m.1) (all_same rest) ∙ same m.0 m.1 (members_of rest no_members)

-- the tokens of what is shown of a row
row_tokens : (ms : Listed) → can_rise ms ≡ true → tokens_of (object_of ms) ≡ begin_object ∷ all_tokens (in_order ms)
row_tokens ms can = ap (λ (more : Members). tokens_of (object more)) (all_same ms) ∙ object_tokens ms can

pub result_tokens : (id : List ℕ) (r : TestResult) → begin_object ∷ (member_tokens (codes "duration") (option_map span_data r.duration)
    ++ (member_tokens (codes "expected") (flag_shown r.expected) ++ (member_tokens (codes "failureReason") (reason_shown r.message)
    ++ (member_tokens (codes "name") (Some (string (name_of_result id r))) ++ (member_tokens (codes "properties") (properties_shown r.properties)
    ++ (member_tokens (codes "resultId") (Some (string r.result)) ++ (member_tokens (codes "startTime") (option_map moment_data r.start)
    ++ (member_tokens (codes "status") (Some (string (status_name r.status))) ++ (member_tokens (codes "summaryHtml") (text_shown r.summary)
    ++ (member_tokens (codes "tags") (tags_shown r.tags) ++ (member_tokens (codes "testId") (Some (string r.test)) ++ (member_tokens (codes "variant") (variant_shown r.variant)
    ++ (member_tokens (codes "variantHash") (Some (string (label_of r.variant))) ++ end_object ∷ []))))))))))))) ≡ tokens_of (result_data id r)
result_tokens id r =
    sym (row_tokens ((name.name, Some (string (name_of_result id r))) ∷ (name.variant_hash, Some (string (label_of r.variant))) ∷ result_members r) refl)

pub exoneration_tokens : (id : List ℕ) (x : TestExoneration) → begin_object ∷ (member_tokens (codes "exonerationId") (Some (string (exoneration_id x)))
    ++ (member_tokens (codes "explanationHtml") (text_shown x.explanation) ++ (member_tokens (codes "name") (Some (string (name_of_exoneration id x)))
    ++ (member_tokens (codes "testId") (Some (string x.test)) ++ (member_tokens (codes "variant") (variant_shown x.variant)
    ++ (member_tokens (codes "variantHash") (Some (string (label_of x.variant))) ++ end_object ∷ [])))))) ≡ tokens_of (exoneration_data id x)
exoneration_tokens id x =
    sym (row_tokens ((name.exoneration_id, Some (string (exoneration_id x))) ∷ (name.name, Some (string (name_of_exoneration id x)))
    ∷ (name.variant_hash, Some (string (label_of x.variant))) ∷ exoneration_members x) refl)
