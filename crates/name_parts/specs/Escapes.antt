-- Escaped texts: how the bytes of a value are spelled in a name, and what is wrong with a text that
-- is no spelling of one.
use Rattle.std.specs.Prelude.{ℕ, ◌+◌, ◌*◌, ◌==◌, ◌||◌, if◌then◌else◌, nat_lt, min, Bool, List, [], ◌∷◌, length, take, drop, codes, Option, Some, None, option_map}
use Rattle.std.specs.Str.{bytes_eq}
use Rattle.std.specs.List.{flat_map, prefix_len}
use Rattle.std.specs.Char.{digit_value, is_ascii_alphanumeric}
use Rattle.percent_encoding.specs.Percent.{percent_encode_byte, percent_decode, is_escape}
use Rattle.name_parts.specs.declared.faults.NameFault.{NameFault}
use Rattle.name_parts.specs.declared.faults.NameFault.TheVariants.{Empty, TooLong, BadByte, NotCanonical}
use Rattle.name_parts.specs.declared.parts.PartForm.{PartForm}
use Rattle.name_parts.specs.Alphabets.{is_in}
use Rattle.name_parts.specs.Parts.{most_bytes, bad_place}

-- the byte stands as itself in a name
abbrev pub is_plain : ℕ → Bool
is_plain b = is_ascii_alphanumeric b || is_in (codes "-_.~$&+=:@") b

-- the one spelling of a byte in a name: itself, or `%` and two upper-case hexadecimal digits
unfoldable pub spelling : ℕ → List ℕ
spelling b = if is_plain b then b ∷ [] else percent_encode_byte b

-- the one spelling of bytes in a name
unfoldable pub escaped : List ℕ → List ℕ
escaped bytes = flat_map spelling bytes

-- each byte that a text spells, with its spelling: an escape with digits of either case, or the
-- byte itself
unfoldable pub spelled : List ℕ → List (ℕ × List ℕ)
spelled [] = []
spelled (b ∷ []) = (b, b ∷ []) ∷ []
spelled (b ∷ c ∷ []) = (b, b ∷ []) ∷ (c, c ∷ []) ∷ []
spelled (b ∷ high ∷ low ∷ rest) =
    if is_escape b high low
    then (16 * digit_value high + digit_value low, b ∷ high ∷ low ∷ []) ∷ spelled rest
    else (b, b ∷ []) ∷ spelled (high ∷ low ∷ rest)

-- the spelling is the byte's one spelling
abbrev pub is_spelling : List ℕ → ℕ → Bool
is_spelling text b = bytes_eq text (spelling b)

-- the fault of another spelling: of an escape, or of a byte that doesn't stand as itself
abbrev pub misspelt : List ℕ → ℕ → NameFault
misspelt [] place = BadByte place
misspelt (b ∷ bs) place = if b == 37 then NotCanonical place else BadByte place

-- how many bytes stand in their one spelling before the first that doesn't, and before the value's
-- first bad one
abbrev pub good_len : Option ℕ → List (ℕ × List ℕ) → ℕ
good_len None ss = prefix_len (λ s. is_spelling s.1 s.0) ss
good_len (Some bad) ss = min bad (prefix_len (λ s. is_spelling s.1 s.0) ss)

-- the fault of what stands at this place behind them: another spelling, or else the value's bad
-- byte
abbrev pub fault_there : Option ℕ → List (ℕ × List ℕ) → ℕ → Option NameFault
fault_there bad [] place = option_map (λ _. BadByte place) bad
fault_there bad (s ∷ ss) place =
    Some (if is_spelling s.1 s.0 then BadByte place else misspelt s.1 place)

-- The first fault of bytes and their spellings. Its place is how many bytes spell those before.
abbrev pub first_fault : Option ℕ → List (ℕ × List ℕ) → Option NameFault
first_fault bad ss =
    fault_there bad (drop (good_len bad ss) ss)
    (length (flat_map (λ s. s.1) (take (good_len bad ss) ss)))

-- The fault of an escaped part: that it is empty, then that its value is too long, then its first
-- bad place.
unfoldable pub escaped_fault : PartForm → List ℕ → Option NameFault
escaped_fault form text =
    if length text == 0 then Some Empty
    else (if nat_lt (most_bytes form) (length (percent_decode text))
    then Some (TooLong (length (percent_decode text)))
    else first_fault (bad_place form (percent_decode text)) (spelled text))
