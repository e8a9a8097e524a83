-- What is written of the values of a row. What is empty is left out, and bytes that are no text are
-- written as the empty one.
use Rattle.std.specs.Prelude.{if◌then◌else◌, ℕ, ℤ, List, [], ◌∷◌, fold, Bool, Option, Some, None, option_and_then, option_map}
use Rattle.std.specs.Str.{is_utf8}
use Rattle.serde_json.specs.Data.{Data, boolean, string, object, Members, no_members, put}
use Rattle.serde_json.specs.Read.{read}
use Rattle.moments_spans.specs.Moments.{moment_text}
use Rattle.moments_spans.specs.Spans.{span_text}
use Rattle.names_realms.specs.declared.pairs.Pair.{Pair}
use Rattle.field_kinds.specs.PairKinds.Tags.{tag_data}
use Rattle.json_fields.specs.declared.faults.FieldFault.{FieldFault}
use Rattle.field_kinds.specs.Variants.{def_name}
use Rattle.field_kinds.specs.Properties.{a_properties, empty_object}
use Rattle.result_forms.specs.Names as name
use Rattle.form_fields.specs.Members.{list_or_none, object_of}

-- A text: its bytes, and none where they aren't UTF-8.
abbrev pub as_text : List ℕ → List ℕ
as_text bytes = if is_utf8 bytes then bytes else []

abbrev pub unless_empty : List ℕ → Option Data
unless_empty [] = None
unless_empty (b ∷ bs) = Some (string (b ∷ bs))

abbrev pub text_shown : List ℕ → Option Data
text_shown bytes = unless_empty (as_text bytes)

abbrev pub flag_shown : Bool → Option Data
flag_shown on = if on then Some (boolean on) else None

abbrev pub moment_data : ℤ → Data
moment_data moment = string (moment_text moment)

abbrev pub span_data : ℕ → Data
span_data span = string (span_text span)

-- tags, each a key and a value
abbrev pub pair_shown : Pair → Pair
pair_shown pair = record { key = as_text pair.key; value = as_text pair.value }

abbrev pub pair_data : Pair → Data
pair_data pair = tag_data (pair_shown pair)

abbrev pub tags_shown : List Pair → Option Data
tags_shown tags = list_or_none pair_data tags

-- the pairs of a variant, each a text under its key
abbrev pub put_pair : Members → Pair → Members
put_pair ms pair = put (as_text pair.key) (string (as_text pair.value)) ms

abbrev pub variant_shown : List Pair → Option Data
variant_shown [] = None
variant_shown (pair ∷ pairs) =
    Some (object (put def_name.camel (object (fold put_pair no_members (pair ∷ pairs))) no_members))

-- the message of a failure, as the one member of its reason
abbrev pub reason_of : Data → Data
reason_of message = object_of ((name.primary_error_message, Some message) ∷ [])

abbrev pub reason_shown : List ℕ → Option Data
reason_shown message = option_map reason_of (text_shown message)

-- The object that a text of properties is; none where it has no members, or the text is of no such
-- object.
abbrev pub unless_faulty : Option FieldFault → Data → Option Data
unless_faulty None d = if empty_object d then None else Some d
unless_faulty (Some f) d = None

abbrev pub right_object : Data → Option Data
right_object d = unless_faulty (a_properties d) d

abbrev pub properties_shown : List ℕ → Option Data
properties_shown text = option_and_then right_object (read (as_text text))
