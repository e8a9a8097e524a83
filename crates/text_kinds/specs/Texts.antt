-- Texts with a limit.
use Rattle.std.specs.Prelude.{◌≢◌, ◌≤◌, ℕ, Bool, true, not, ◌&&◌, ◌==◌, nat_lt, if◌then◌else◌, List, [], All, length, Option, Some, option_map}
use Rattle.std.specs.List.{position}
use Rattle.serde_json.specs.Data.{Data, null, boolean, number, string, array, object}
use Rattle.json_fields.specs.Faults.{here}
use Rattle.json_fields.specs.Texts.{bad_value}
use Rattle.json_fields.specs.declared.faults.FieldFault.{FieldFault}
use Rattle.json_fields.specs.declared.faults.FaultKind.TheVariants.{WrongKind}
use Rattle.json_fields.specs.declared.whys.Why.{Why}
use Rattle.json_fields.specs.declared.whys.Why.TheVariants.{Empty, TooLong, BadByte}

-- a text, by why a text is refused
abbrev pub a_string : (List ℕ → Option Why) → Data → Option FieldFault
a_string why null = Some (here WrongKind)
a_string why (boolean b) = Some (here WrongKind)
a_string why (number n) = Some (here WrongKind)
a_string why (string s) = bad_value (why s)
a_string why (array ds) = Some (here WrongKind)
a_string why (object ms) = Some (here WrongKind)

-- At least and at most so many bytes, each of them allowed: a text with fewer counts as empty, one
-- with more is too long, and else its first byte that isn't allowed is bad.
abbrev pub limited_why : ℕ → ℕ → (ℕ → Bool) → List ℕ → Option Why
limited_why least most allowed text =
    if nat_lt (length text) least then Some Empty
    else (if nat_lt most (length text) then Some (TooLong (length text))
    else option_map BadByte (position (λ b. not (allowed b)) text))

-- which bytes are allowed: all, those that print, and those that print but for the space
abbrev pub any_byte : ℕ → Bool
any_byte b = true

abbrev pub printed : ℕ → Bool
printed b = nat_lt 31 b && nat_lt b 127

abbrev pub inked : ℕ → Bool
inked b = nat_lt 32 b && nat_lt b 127

-- the limits in bytes: of a summary or explanation, of an error's message, of a content type, and
-- of a request id
abbrev pub most_of_html : ℕ
most_of_html = 4096

abbrev pub most_of_message : ℕ
most_of_message = 1024

abbrev pub most_of_content_type : ℕ
most_of_content_type = 128

abbrev pub most_of_request_id : ℕ
most_of_request_id = 36

-- a request id isn't empty
abbrev pub least_of_request_id : ℕ
least_of_request_id = 1

-- A text is the id of a request: it isn't empty, has at most 36 bytes, and each of them prints and
-- is no space.
pub record IsRequestId (text : List ℕ) : Type 0 where
  pub filled : text ≢ []
  pub few : length text ≤ 36
  pub bytes : All (λ b. (33 ≤ b) × (b ≤ 126)) text

-- What is wrong with a text that is none. That there is something exactly where it is none is
-- proved in `specs/Laws.antt`.
abbrev pub request_id_why : List ℕ → Option Why
request_id_why text = limited_why least_of_request_id most_of_request_id inked text

abbrev pub a_request_id : Data → Option FieldFault
a_request_id = a_string request_id_why

-- the empty value
abbrev pub is_blank : List ℕ → Bool
is_blank text = length text == 0
