-- How the code reads an escaped text from left to right. Callers read `Escapes`, which says what it
-- finds.
use Rattle.std.specs.Prelude.{ℕ, ◌+◌, ◌*◌, ◌==◌, if◌then◌else◌, Bool, false, List, [], ◌∷◌, length, Option, Some, None, option_map}
use Rattle.std.specs.Option.{option_or}
use Rattle.std.specs.Char.{digit_value}
use Rattle.percent_encoding.specs.Percent.{is_escape}
use Rattle.name_parts.specs.declared.faults.NameFault.{NameFault}
use Rattle.name_parts.specs.declared.faults.NameFault.TheVariants.{BadByte}
use Rattle.name_parts.specs.Escapes.{is_spelling, misspelt}

-- how many bytes at the front of a text spell its first one: three of an escape with digits of
-- either case, else one
abbrev pub front_len : List ℕ → ℕ
front_len [] = 1
front_len (b ∷ []) = 1
front_len (b ∷ c ∷ []) = 1
front_len (b ∷ high ∷ low ∷ rest) = if is_escape b high low then 3 else 1

-- and which byte that is
abbrev pub front_byte : List ℕ → ℕ
front_byte [] = 0
front_byte (b ∷ []) = b
front_byte (b ∷ c ∷ []) = b
front_byte (b ∷ high ∷ low ∷ rest) =
    if is_escape b high low then 16 * digit_value high + digit_value low else b

-- the fault of one byte of a text at this place
abbrev pub front_fault : ℕ × List ℕ → ℕ → Bool → Option NameFault
front_fault s place is_bad =
    if is_spelling s.1 s.0 then (if is_bad then Some (BadByte place) else None)
    else Some (misspelt s.1 place)

-- the bad byte is this one
abbrev pub is_at : Option ℕ → ℕ → Bool
is_at None index = false
is_at (Some bad) index = bad == index

-- The first fault of the bytes from this one on, which stands at this place: another spelling, or
-- that the value's first bad byte is here.
abbrev pub spelling_fault : Option ℕ → ℕ → ℕ → List (ℕ × List ℕ) → Option NameFault
spelling_fault bad index place [] = option_map (λ _. BadByte place) bad
spelling_fault bad index place (s ∷ ss) =
    option_or (front_fault s place (is_at bad index))
    (spelling_fault bad (index + 1) (place + length s.1) ss)
