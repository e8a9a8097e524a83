-- What a head announces: how long a body follows it, and whether the connection ends after the
-- reply.
use Rattle.std.specs.Prelude.{ℕ, ◌==◌, ◌&&◌, ◌||◌, Bool, not, List, [], ◌∷◌, length}
use Rattle.std.specs.Prelude.{map, codes, nat_lt, nat_le, if◌then◌else◌}
use Rattle.std.specs.List.{flat_map, list_any, slice_split}
use Rattle.std.specs.Str.{bytes_eq, str_eq_ignore_ascii_case, all_ascii_digits}
use Rattle.std.specs.Str.Parse.{digits_value}
use Rattle.httparse.specs.Grammar.{RequestHead, trim_ows}
use Rattle.httparse.specs.Spans.{name_and_value}

-- ---- headers by name

-- the value, where the name fits, ASCII case aside
abbrev pub value_if : List ℕ → List ℕ × List ℕ → List (List ℕ)
value_if name field = if str_eq_ignore_ascii_case field.0 name then field.1 ∷ [] else []

-- the values under a name, in order
abbrev pub values_of : List ℕ → List (List ℕ × List ℕ) → List (List ℕ)
values_of name fields = flat_map (value_if name) fields

-- the names and the values of a head's fields
abbrev pub fields_of : RequestHead → List (List ℕ × List ℕ)
fields_of h = map name_and_value h.fields

-- the values of a head's fields with a name
abbrev pub values_in : List ℕ → RequestHead → List (List ℕ)
values_in name h = values_of name (fields_of h)

-- ---- the length of the body

-- 1 to 10 digits
abbrev pub is_length : List ℕ → Bool
is_length text = nat_lt 0 (length text) && nat_le (length text) 10 && all_ascii_digits text

-- the length that these values of Content-Length give: that of the one, and 0 where there is none
abbrev pub length_of : List (List ℕ) → ℕ
length_of [] = 0
length_of (text ∷ texts) = digits_value 10 text

-- the length of the body behind a head
abbrev pub body_length : RequestHead → ℕ
body_length h = length_of (values_in (codes "content-length") h)

-- the most bytes that a body has
abbrev pub body_limit : ℕ
body_limit = 4194304

-- ---- the end of the connection

abbrev pub is_post : RequestHead → Bool
is_post h = bytes_eq h.method (codes "POST")

-- the element `close`, in any case of its letters, with spaces and tabs around it
abbrev pub is_close : List ℕ → Bool
is_close element = str_eq_ignore_ascii_case (trim_ows element) (codes "close")

-- one of the elements, which stand between commas, is `close` (RFC 9110, sections 5.6.1 and 7.6.1)
abbrev pub has_close : List ℕ → Bool
has_close value = list_any is_close (slice_split (λ b. b == 44) value)

-- The connection ends after the reply: to a method that isn't POST, to HTTP/1.0, or where a
-- Connection header says so (RFC 9112, section 9.6).
abbrev pub closes_after : RequestHead → Bool
closes_after h =
    not (is_post h) || h.minor == 0 || list_any has_close (values_in (codes "connection") h)
