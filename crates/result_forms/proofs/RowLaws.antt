-- Results and exonerations, made of their fields.
use Rattle.std.proofs.Common.{◌≡◌, ℕ, ℤ, Bool, List, Option, refl}
use Rattle.serde_json.specs.Data.{Data}
use Rattle.name_parts.specs.declared.alphabets.Alphabet.TheVariants as alphabet
use Rattle.name_parts.specs.declared.parts.PartForm.TheVariants.{Letters, TestId}
use Rattle.names_realms.specs.declared.pairs.Pair.{Pair}
use Rattle.names_realms.specs.declared.states.Status.{Status}
use Rattle.json_fields.specs.Faults.{first}
use Rattle.json_fields.specs.Kinds.{an_object}
use Rattle.field_kinds.specs.Requests.{RequestForm}
use Rattle.test_results.specs.declared.result.TestResult.{TestResult}
use Rattle.test_results.specs.declared.exoneration.TestExoneration.{TestExoneration}
use Rattle.form_fields.specs.Fields.{Fields, both, last, list_field, object_kind, optional_field, required_field}
use Rattle.form_fields.specs.Kinds.{moment_kind, part_kind, tag_kind}
use Rattle.form_fields.specs.Laws.{AreLawful, EachPlain, IsLawfulKind, IsMadeOf}
use Rattle.form_fields.proofs.FieldLaws.{after_object, both_lawful, last_lawful, list_field_lawful, optional_lawful, required_lawful}
use Rattle.form_fields.proofs.KindLaws.{moment_lawful, part_lawful}
use Rattle.form_fields.proofs.RequestLaws.{object_lawful}
use Rattle.result_forms.specs.Batches.{RowForm}
use Rattle.result_forms.specs.Exonerations.{an_exoneration, exoneration_members}
use Rattle.result_forms.specs.Fields.{html_why}
use Rattle.result_forms.specs.Methods.{exoneration_row, result_row}
use Rattle.result_forms.specs.Names as name
use Rattle.result_forms.specs.Results.{a_more, a_result, a_what, result_members}
use Rattle.result_forms.specs.Shown.{pair_data}
use Rattle.result_forms.proofs.RowKinds.{flag_field, flag_field_lawful, message_field, message_field_lawful, properties_field, properties_field_lawful, span_kind, span_lawful, status_kind, status_lawful, tags_lawful, text_field, text_field_lawful, variant_field, variant_field_lawful}

-- the form of a row, as that of an object
abbrev pub row_form : {A : Type 0} → RowForm A → RequestForm A
row_form f = record { fault = f.fault; means = f.means; json = f.json; OfForm = f.OfForm; CanBeAsked = f.OfForm }

-- ---- results

abbrev What : Type 0
What = List ℕ × (List ℕ × (List Pair × (Bool × (Status × List ℕ))))

abbrev More : Type 0
More = Option ℤ × (Option ℕ × (List Pair × (List ℕ × List ℕ)))

abbrev what_fields : Fields What
what_fields =
    both (required_field name.test_id (part_kind TestId))
    (both (required_field name.result_id (part_kind (Letters alphabet.Outcome)))
    (both (variant_field name.variant)
    (both (flag_field name.expected)
    (both (required_field name.status status_kind) (last (text_field name.summary_html html_why))))))

what_are : AreLawful what_fields
what_are =
    both_lawful _ _ (required_lawful name.test_id (part_kind TestId) (part_lawful TestId))
    (both_lawful _ _ (required_lawful name.result_id (part_kind (Letters alphabet.Outcome)) (part_lawful (Letters alphabet.Outcome)))
    (both_lawful _ _ (variant_field_lawful name.variant)
    (both_lawful _ _ (flag_field_lawful name.expected)
    (both_lawful _ _ (required_lawful name.status status_kind status_lawful) (last_lawful _ (text_field_lawful name.summary_html html_why refl))))))

abbrev more_fields : Fields More
more_fields =
    both (optional_field name.start_time moment_kind)
    (both (optional_field name.duration span_kind)
    (both (list_field name.tags (tag_kind pair_data))
    (both (message_field name.failure_reason) (last (properties_field name.properties)))))

more_are : AreLawful more_fields
more_are =
    both_lawful _ _ (optional_lawful name.start_time moment_kind moment_lawful)
    (both_lawful _ _ (optional_lawful name.duration span_kind span_lawful)
    (both_lawful _ _ (list_field_lawful (tag_kind pair_data) tags_lawful name.tags)
    (both_lawful _ _ (message_field_lawful name.failure_reason) (last_lawful _ (properties_field_lawful name.properties)))))

abbrev pub result_fields : Fields (What × More)
result_fields = both what_fields more_fields

pub result_are : AreLawful result_fields
result_are = both_lawful what_fields more_fields what_are more_are

result_faults : (d : Data) → a_result d ≡ first (an_object d) (result_fields.fault d)
unfolding a_result a_what a_more
result_faults d = after_object (an_object d) (what_fields.fault d) (more_fields.fault d)

abbrev made_result : What × More → TestResult
made_result v = record {
  holder = 0;
  test = v.0.0;
  result = v.0.1.0;
  variant = v.0.1.1.0;
  expected = v.0.1.1.1.0;
  status = v.0.1.1.1.1.0;
  summary = v.0.1.1.1.1.1;
  start = v.1.0;
  duration = v.1.1.0;
  tags = v.1.1.1.0;
  message = v.1.1.1.1.0;
  properties = v.1.1.1.1.1;
}

abbrev parts_of_result : TestResult → What × More
parts_of_result r =
    ((r.test, (r.result, (r.variant, (r.expected, (r.status, r.summary))))), (r.start, (r.duration, (r.tags, (r.message, r.properties)))))

pub result_made : IsMadeOf (row_form result_row) result_fields
result_made = record {
  made = made_result;
  parts = parts_of_result;
  held = λ v. refl;
  whole = λ d r is i. record {
    holder = is.holder_is i;
    test = r.test;
    result = r.result;
    variant = r.variant;
    expected = r.expected;
    status = r.status;
    summary = r.summary;
    start = r.start;
    duration = r.duration;
    tags = r.tags;
    message = r.message;
    properties = r.properties;
  };
  faults = result_faults;
  told = λ d r is.
      let what = is.what_is in
      let more = is.more_is in (
        (what.test_is, (what.result_is, (what.variant_is, (what.expected_is, (what.status_is, what.summary_is))))),
        (more.start_is, (more.duration_is, (more.tags_are, (more.message_is, more.properties_are)))),
      );
  said = λ d r of is. record {
    holder_is = of.holder;
    what_is = record {
      test_is = is.0.0;
      result_is = is.0.1.0;
      variant_is = is.0.1.1.0;
      expected_is = is.0.1.1.1.0;
      status_is = is.0.1.1.1.1.0;
      summary_is = is.0.1.1.1.1.1;
    };
    more_is = record {
      start_is = is.1.0;
      duration_is = is.1.1.0;
      tags_are = is.1.1.1.0;
      message_is = is.1.1.1.1.0;
      properties_are = is.1.1.1.1.1;
    };
  };
  in_form = λ r of.
      let what = of.what in
      let more = of.more in (
        ((what.test, refl), ((what.result, refl), ((what.order, what.variant), (tt, ((tt, refl), what.summary))))),
        (more.start, (more.duration, (more.tags, (more.message, more.properties)))),
      );
  of_form = λ v of. record {
    holder = refl;
    what = record {
      test = of.0.0.0;
      result = of.0.1.0.0;
      order = of.0.1.1.0.0;
      variant = of.0.1.1.0.1;
      summary = of.0.1.1.1.1.1;
    };
    more = record {
      start = of.1.0;
      duration = of.1.1.0;
      tags = of.1.1.1.0;
      message = of.1.1.1.1.0;
      properties = of.1.1.1.1.1;
    };
  };
  members = λ r. refl;
  apart = refl;
}

pub result_plain : (r : TestResult) → EachPlain 64 (result_members r)
result_plain r = result_are.plain (parts_of_result r)

pub result_lawful : IsLawfulKind (object_kind (row_form result_row) result_fields)
result_lawful = object_lawful (row_form result_row) result_fields result_made result_are

-- ---- exonerations

abbrev pub exoneration_fields : Fields (List ℕ × (List Pair × List ℕ))
exoneration_fields =
    both (required_field name.test_id (part_kind TestId)) (both (variant_field name.variant) (last (text_field name.explanation_html html_why)))

pub exoneration_are : AreLawful exoneration_fields
exoneration_are =
    both_lawful _ _ (required_lawful name.test_id (part_kind TestId) (part_lawful TestId))
    (both_lawful _ _ (variant_field_lawful name.variant) (last_lawful _ (text_field_lawful name.explanation_html html_why refl)))

pub exoneration_made : IsMadeOf (row_form exoneration_row) exoneration_fields
unfolding an_exoneration
exoneration_made = record {
  made = λ v. record { holder = 0; place = 0; test = v.0; variant = v.1.0; explanation = v.1.1 };
  parts = λ x. (x.test, (x.variant, x.explanation));
  held = λ v. refl;
  whole = λ d x is i. record {
    holder = is.holder_is i;
    place = is.place_is i;
    test = x.test;
    variant = x.variant;
    explanation = x.explanation;
  };
  faults = λ d. refl;
  told = λ d x is. (is.test_is, (is.variant_is, is.explanation_is));
  said = λ d x of is. record {
    holder_is = of.holder;
    place_is = of.place;
    test_is = is.0;
    variant_is = is.1.0;
    explanation_is = is.1.1;
  };
  in_form = λ x of. ((of.test, refl), ((of.order, of.variant), of.explanation));
  of_form = λ v of. record {
    holder = refl;
    place = refl;
    test = of.0.0;
    order = of.1.0.0;
    variant = of.1.0.1;
    explanation = of.1.1;
  };
  members = λ x. refl;
  apart = refl;
}

pub exoneration_plain : (x : TestExoneration) → EachPlain 64 (exoneration_members x)
exoneration_plain x = exoneration_are.plain (x.test, (x.variant, x.explanation))

pub exoneration_lawful : IsLawfulKind (object_kind (row_form exoneration_row) exoneration_fields)
exoneration_lawful = object_lawful (row_form exoneration_row) exoneration_fields exoneration_made exoneration_are
