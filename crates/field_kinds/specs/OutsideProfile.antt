-- Fields that the profile leaves out: they may be set to nothing.
use Rattle.std.specs.Prelude.{◌≡◌, ◌⊎◌, ◌↔◌, ◌==◌, if◌then◌else◌, [], length, Option, Some, None}
use Rattle.serde_json.specs.Data.{Data, null, boolean, number, string, array, object, Members, no_members, member}
use Rattle.json_fields.specs.Faults.{here}
use Rattle.json_fields.specs.declared.faults.FieldFault.{FieldFault}
use Rattle.json_fields.specs.declared.faults.FaultKind.TheVariants.{BadValue}
use Rattle.json_fields.specs.declared.whys.Why.TheVariants.{OutOfProfile}

abbrev pub left_out : Option FieldFault
left_out = Some (here (BadValue OutOfProfile))

abbrev pub no_members_or_left_out : Members → Option FieldFault
no_members_or_left_out no_members = None
no_members_or_left_out (member k d ms) = left_out

-- a message or a mask: the empty object, or the empty text
abbrev pub an_empty_message : Data → Option FieldFault
an_empty_message null = None
an_empty_message (boolean b) = left_out
an_empty_message (number n) = left_out
an_empty_message (string s) = if length s == 0 then None else left_out
an_empty_message (array ds) = left_out
an_empty_message (object ms) = no_members_or_left_out ms

-- a text: the empty one
abbrev pub an_empty_text : Data → Option FieldFault
an_empty_text null = None
an_empty_text (boolean b) = left_out
an_empty_text (number n) = left_out
an_empty_text (string s) = if length s == 0 then None else left_out
an_empty_text (array ds) = left_out
an_empty_text (object ms) = left_out

-- A message that the profile leaves out has no fault exactly where it is null, the empty text or
-- the empty object.
abbrev pub OnlyEmptyMessagesAreRead : Type 0
OnlyEmptyMessagesAreRead = (d : Data)
    → (an_empty_message d ≡ None) ↔ ((d ≡ null) ⊎ ((d ≡ string []) ⊎ (d ≡ object no_members)))

-- A text that it leaves out has none exactly where it is null or empty.
abbrev pub OnlyEmptyTextsAreRead : Type 0
OnlyEmptyTextsAreRead = (d : Data) → (an_empty_text d ≡ None) ↔ ((d ≡ null) ⊎ (d ≡ string []))
