-- What a request says of an exoneration of a test.
use Rattle.std.specs.Prelude.{◌≡◌, List, [], ◌∷◌, Option, Some}
use Rattle.serde_json.specs.Data.{Data, string}
use Rattle.names_realms.specs.Names.{test_id_fault, IsTestId}
use Rattle.names_realms.specs.Variants.{IsAscending}
use Rattle.json_fields.specs.Names.{NameForm}
use Rattle.json_fields.specs.Fields.{required, optional, fault_of, filled_at, set_at, Holds}
use Rattle.json_fields.specs.Kinds.{an_object, empty_text}
use Rattle.json_fields.specs.Texts.{a_text, IsText, IsSame}
use Rattle.json_fields.specs.declared.faults.FieldFault.{FieldFault}
use Rattle.field_kinds.specs.Defaults.{HoldsOr}
use Rattle.field_kinds.specs.Variants.{a_variant, IsVariant, AreOfGrammar}
use Rattle.test_results.specs.declared.exoneration.TestExoneration.{TestExoneration}
use Rattle.result_forms.specs.Names as name
use Rattle.result_forms.specs.Fields.{html, IsUtf8Text, IsHtml}
use Rattle.form_fields.specs.Members.{object_of}
use Rattle.result_forms.specs.Shown.{text_shown, variant_shown}

abbrev pub exoneration_fields : List (Data → Option FieldFault)
exoneration_fields =
    an_object
    ∷ required name.test_id empty_text (a_text test_id_fault)
    ∷ optional name.variant a_variant
    ∷ optional name.explanation_html html
    ∷ []

-- the first fault of an exoneration: its fields in their order
unfoldable pub an_exoneration : Data → Option FieldFault
an_exoneration d = fault_of exoneration_fields d

-- The value says this exoneration, which has no holder and no place yet.
pub record IsExoneration (d : Data) (x : TestExoneration) : Type 0 where
  pub holder_is : x.holder ≡ 0
  pub place_is : x.place ≡ 0
  pub test_is : Holds (IsText IsSame) (filled_at name.test_id empty_text d) x.test
  pub variant_is : HoldsOr IsVariant [] (set_at name.variant d) x.variant
  pub explanation_is : HoldsOr IsUtf8Text [] (set_at name.explanation_html d) x.explanation

-- The members of an exoneration, each with its value or none.
abbrev pub exoneration_members : TestExoneration → List (NameForm × Option Data)
exoneration_members x =
    (name.test_id, Some (string x.test))
    ∷ (name.variant, variant_shown x.variant)
    ∷ (name.explanation_html, text_shown x.explanation)
    ∷ []

-- what is written of an exoneration in a request
abbrev pub new_exoneration_data : TestExoneration → Data
new_exoneration_data x = object_of (exoneration_members x)

-- All that the exoneration names or gives is of its grammar and within its limits, and it has no
-- holder and no place yet.
pub record IsExonerationOfForm (x : TestExoneration) : Type 0 where
  pub holder : x.holder ≡ 0
  pub place : x.place ≡ 0
  pub test : IsTestId x.test
  pub order : IsAscending x.variant
  pub variant : AreOfGrammar x.variant
  pub explanation : IsHtml x.explanation
