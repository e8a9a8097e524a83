-- Kinds of fields of batches and their rows.
use Rattle.std.specs.Prelude.{◌≡◌, ◌≢◌, ◌⊎◌, ℕ, List, [], ◌∷◌, codes, Option, Some, None, unwrap_or}
use Rattle.std.specs.Str.{IsUtf8}
use Rattle.serde_json.specs.Data.{Data}
use Rattle.serde_json.specs.Find.{as_str}
use Rattle.names_realms.specs.Names.{IsInvocationName, invocation_name_fault}
use Rattle.json_fields.specs.Fields.{optional, fault_of, set_at}
use Rattle.json_fields.specs.Kinds.{an_object}
use Rattle.json_fields.specs.Texts.{a_text, IsText, IsSame}
use Rattle.json_fields.specs.declared.faults.FieldFault.{FieldFault}
use Rattle.json_fields.specs.declared.whys.Why.{Why}
use Rattle.field_kinds.specs.TextKinds.Texts.{a_string, limited_why, any_byte, most_of_html, most_of_message}
use Rattle.field_kinds.specs.Defaults.{HoldsOr}
use Rattle.field_kinds.specs.Properties.{IsCompact, IsKept}
use Rattle.result_forms.specs.Names as name

-- an invocation's name, and the id that it names
abbrev pub an_invocation_name : Data → Option FieldFault
an_invocation_name = a_text invocation_name_fault

abbrev pub IsNameOf : Data → List ℕ → Type 0
IsNameOf = IsText (λ text id. IsInvocationName id text)

-- why a text is refused as a summary or an explanation, and as an error's message
abbrev pub html_why : List ℕ → Option Why
html_why = limited_why 0 most_of_html any_byte

abbrev pub message_why : List ℕ → Option Why
message_why = limited_why 0 most_of_message any_byte

abbrev pub html : Data → Option FieldFault
html = a_string html_why

abbrev pub message : Data → Option FieldFault
message = a_string message_why

-- The texts of each that aren't refused.
abbrev pub IsHtml : List ℕ → Type 0
IsHtml text = IsUtf8 text × (html_why text ≡ None)

abbrev pub IsMessage : List ℕ → Type 0
IsMessage text = IsUtf8 text × (message_why text ≡ None)

-- the text that a value is, which is UTF-8 as all text of JSON is
abbrev pub IsUtf8Text : Data → List ℕ → Type 0
IsUtf8Text d text = IsText IsSame d text × IsUtf8 text

-- the reason of a failure: an object, of which the message is kept
abbrev pub reason_fields : List (Data → Option FieldFault)
reason_fields = an_object ∷ optional name.primary_error_message message ∷ []

unfoldable pub a_reason : Data → Option FieldFault
a_reason d = fault_of reason_fields d

abbrev pub IsReason : Data → List ℕ → Type 0
IsReason d text = HoldsOr IsUtf8Text [] (set_at name.primary_error_message d) text

-- the compact text of properties, by which they are read again
pub record IsPropertiesOf (d : Data) (text : List ℕ) : Type 0 where
  pub compact : IsCompact d text
  pub kept : IsKept text
  pub utf8 : IsUtf8 text

-- A row has the text of properties, or the empty one in the place of none and of `{}`.
abbrev pub IsPropertiesText : List ℕ → Type 0
IsPropertiesText text =
    (text ≡ []) ⊎ (IsKept text × IsUtf8 text × (text ≢ codes "{}"))

-- the text of a field, the empty one where it has none
abbrev pub text_in : Option Data → List ℕ
text_in None = []
text_in (Some d) = unwrap_or (as_str d) []
