-- Whole numbers: what a JSON value says of one, and which of them are within a bound.
use Rattle.std.specs.Prelude.{◌≡◌, ℕ, Bool, false, not, ◌&&◌, ◌||◌, ◌==◌, nat_lt, if◌then◌else◌, List, [], ◌∷◌, length, Option, Some, None}
use Rattle.std.specs.List.{list_all}
use Rattle.std.specs.Char.{is_ascii_digit}
use Rattle.std.specs.Str.Parse.{digits_value}
use Rattle.serde_json.specs.Data.{Num, unsigned, negative, float, Data, null, boolean, number, string, array, object}
use Rattle.json_fields.specs.Faults.{here}
use Rattle.json_fields.specs.declared.faults.FieldFault.{FieldFault}
use Rattle.json_fields.specs.declared.faults.FaultKind.TheVariants.{WrongKind, BadValue}
use Rattle.json_fields.specs.declared.whys.Why.TheVariants.{NotWhole, Negative, OutOfRange}

-- what a value says of a whole number: nothing, a number that isn't whole, one below zero, or this
-- one
pub data Said : Type 0 where
  no_number : Said
  no_whole : Said
  below_zero : Said
  says : ℕ → Said

-- decimal digits, of which the first is 0 only where it stands alone
abbrev pub is_decimal : List ℕ → Bool
is_decimal [] = false
is_decimal (b ∷ bs) = list_all is_ascii_digit (b ∷ bs) && (not (b == 48) || length bs == 0)

-- a number behind a minus, of which 0 is not below zero
abbrev pub said_below : ℕ → Said
said_below n = if n == 0 then says 0 else below_zero

-- `-` and a decimal text
abbrev pub said_behind_minus : List ℕ → Said
said_behind_minus [] = no_number
said_behind_minus (b ∷ bs) =
    if b == 45 && is_decimal bs then said_below (digits_value 10 bs) else no_number

-- what a text says: the number that it writes in decimal, of any size
abbrev pub said_text : List ℕ → Said
said_text text = if is_decimal text then says (digits_value 10 text) else said_behind_minus text

-- what a JSON number says; a float, `1.0` too, is no whole number
abbrev pub said_number : Num → Said
said_number (unsigned n) = says n
said_number (negative z) = below_zero
said_number (float x) = no_whole

abbrev pub said : Data → Said
said null = no_number
said (boolean b) = no_number
said (number n) = said_number n
said (string s) = said_text s
said (array ds) = no_number
said (object ms) = no_number

-- the fault of what is said, where no number above the bound is taken
abbrev pub beyond : ℕ → Said → Option FieldFault
beyond most no_number = Some (here WrongKind)
beyond most no_whole = Some (here (BadValue NotWhole))
beyond most below_zero = Some (here (BadValue Negative))
beyond most (says n) = if nat_lt most n then Some (here (BadValue OutOfRange)) else None

-- a whole number that is at most the bound
abbrev pub a_whole : ℕ → Data → Option FieldFault
a_whole most d = beyond most (said d)

-- the number that a value says
abbrev pub IsSaid : Data → ℕ → Type 0
IsSaid d n = said d ≡ says n

-- the greatest size of a page, 2^31 - 1, and of a content, 2^63 - 1
abbrev pub most_of_page : ℕ
most_of_page = 2147483647

abbrev pub most_of_bytes : ℕ
most_of_bytes = 9223372036854775807
