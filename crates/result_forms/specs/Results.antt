-- What a request says of a test result.
use Rattle.std.specs.Prelude.{◌≡◌, ◌≤◌, List, [], ◌∷◌, ◌++◌, All, false, Option, Some, option_map}
use Rattle.std.specs.Option.{ForSome}
use Rattle.serde_json.specs.Data.{Data, string}
use Rattle.names_realms.specs.Names.{test_id_fault, result_id_fault, IsTestId, IsResultId}
use Rattle.names_realms.specs.Variants.{IsAscending}
use Rattle.moments_spans.specs.Moments.{IsInYears}
use Rattle.moments_spans.specs.MomentGrammar.{IsMomentText}
use Rattle.moments_spans.specs.Spans.{most_span}
use Rattle.moments_spans.specs.SpanGrammar.{IsSpanText}
use Rattle.json_fields.specs.Names.{NameForm}
use Rattle.json_fields.specs.Fields.{required, optional, fault_of, filled_at, set_at, Holds, HoldsMaybe}
use Rattle.json_fields.specs.Faults.{first}
use Rattle.json_fields.specs.Kinds.{an_object, a_list, empty_text, HoldsList}
use Rattle.json_fields.specs.Texts.{a_text, IsText, IsSame, moment_fault, span_fault}
use Rattle.field_kinds.specs.PairKinds.Tags.{a_tag, IsTag, IsPairOfGrammar}
use Rattle.json_fields.specs.declared.faults.FieldFault.{FieldFault}
use Rattle.field_kinds.specs.TextKinds.Statuses.{a_status, no_status, IsStatus, status_name}
use Rattle.field_kinds.specs.Defaults.{HoldsOr}
use Rattle.field_kinds.specs.Filled.{optional_filled}
use Rattle.field_kinds.specs.Flags.{a_flag, IsFlag}
use Rattle.field_kinds.specs.Properties.{a_properties, empty_object}
use Rattle.field_kinds.specs.Variants.{a_variant, IsVariant, AreOfGrammar}
use Rattle.test_results.specs.declared.result.TestResult.{TestResult}
use Rattle.result_forms.specs.Names as name
use Rattle.result_forms.specs.Fields.{html, a_reason, IsUtf8Text, IsReason, IsPropertiesOf, IsHtml, IsMessage, IsPropertiesText}
use Rattle.form_fields.specs.Members.{object_of}
use Rattle.result_forms.specs.Shown.{flag_shown, text_shown, variant_shown, tags_shown, reason_shown, properties_shown, moment_data, span_data}
use Rattle.result_forms.specs.declared.results.What.{What}
use Rattle.result_forms.specs.declared.results.More.{More}

-- what the result is
abbrev pub what_fields : List (Data → Option FieldFault)
what_fields =
    an_object
    ∷ required name.test_id empty_text (a_text test_id_fault)
    ∷ required name.result_id empty_text (a_text result_id_fault)
    ∷ optional name.variant a_variant
    ∷ optional name.expected a_flag
    ∷ required name.status no_status a_status
    ∷ optional name.summary_html html
    ∷ []

-- and what else is said of it
abbrev pub more_fields : List (Data → Option FieldFault)
more_fields =
    optional name.start_time (a_text moment_fault)
    ∷ optional name.duration (a_text span_fault)
    ∷ optional name.tags (a_list a_tag)
    ∷ optional name.failure_reason a_reason
    ∷ optional_filled name.properties empty_object a_properties
    ∷ []

unfoldable pub a_what : Data → Option FieldFault
a_what d = fault_of what_fields d

unfoldable pub a_more : Data → Option FieldFault
a_more d = fault_of more_fields d

-- the first fault of a test result: its fields in their order
unfoldable pub a_result : Data → Option FieldFault
a_result d = first (a_what d) (a_more d)

pub record IsWhat (d : Data) (r : What) : Type 0 where
  pub test_is : Holds (IsText IsSame) (filled_at name.test_id empty_text d) r.test
  pub result_is : Holds (IsText IsSame) (filled_at name.result_id empty_text d) r.result
  pub variant_is : HoldsOr IsVariant [] (set_at name.variant d) r.variant
  pub expected_is : HoldsOr IsFlag false (set_at name.expected d) r.expected
  pub status_is : Holds IsStatus (filled_at name.status no_status d) r.status
  pub summary_is : HoldsOr IsUtf8Text [] (set_at name.summary_html d) r.summary

pub record IsMore (d : Data) (r : More) : Type 0 where
  pub start_is : HoldsMaybe (IsText IsMomentText) (set_at name.start_time d) r.start
  pub duration_is : HoldsMaybe (IsText IsSpanText) (set_at name.duration d) r.duration
  pub tags_are : HoldsList IsTag (set_at name.tags d) r.tags
  pub message_is : HoldsOr IsReason [] (set_at name.failure_reason d) r.message
  pub properties_are :
      HoldsOr IsPropertiesOf [] (filled_at name.properties empty_object d) r.properties

-- the two parts of a row
abbrev pub what_of : TestResult → What
what_of r = record {
  test = r.test;
  result = r.result;
  variant = r.variant;
  expected = r.expected;
  status = r.status;
  summary = r.summary;
}

abbrev pub more_of : TestResult → More
more_of r = record {
  start = r.start;
  duration = r.duration;
  tags = r.tags;
  message = r.message;
  properties = r.properties;
}

-- The value says this result, which has no holder yet.
pub record IsResult (d : Data) (r : TestResult) : Type 0 where
  pub holder_is : r.holder ≡ 0
  pub what_is : IsWhat d (what_of r)
  pub more_is : IsMore d (more_of r)

-- The members of a result, each with its value or none.
abbrev pub what_members : TestResult → List (NameForm × Option Data)
what_members r =
    (name.test_id, Some (string r.test))
    ∷ (name.result_id, Some (string r.result))
    ∷ (name.variant, variant_shown r.variant)
    ∷ (name.expected, flag_shown r.expected)
    ∷ (name.status, Some (string (status_name r.status)))
    ∷ (name.summary_html, text_shown r.summary)
    ∷ []

abbrev pub more_members : TestResult → List (NameForm × Option Data)
more_members r =
    (name.start_time, option_map moment_data r.start)
    ∷ (name.duration, option_map span_data r.duration)
    ∷ (name.tags, tags_shown r.tags)
    ∷ (name.failure_reason, reason_shown r.message)
    ∷ (name.properties, properties_shown r.properties)
    ∷ []

abbrev pub result_members : TestResult → List (NameForm × Option Data)
result_members r = what_members r ++ more_members r

-- what is written of a result in a request
abbrev pub new_result_data : TestResult → Data
new_result_data r = object_of (result_members r)

-- All that the result names or gives is of its grammar and within its limits, and it has no holder
-- yet.
pub record IsWhatOfForm (r : What) : Type 0 where
  pub test : IsTestId r.test
  pub result : IsResultId r.result
  pub order : IsAscending r.variant
  pub variant : AreOfGrammar r.variant
  pub summary : IsHtml r.summary

pub record IsMoreOfForm (r : More) : Type 0 where
  pub start : ForSome r.start IsInYears
  pub duration : ForSome r.duration (λ span. span ≤ most_span)
  pub tags : All IsPairOfGrammar r.tags
  pub message : IsMessage r.message
  pub properties : IsPropertiesText r.properties

pub record IsResultOfForm (r : TestResult) : Type 0 where
  pub holder : r.holder ≡ 0
  pub what : IsWhatOfForm (what_of r)
  pub more : IsMoreOfForm (more_of r)
