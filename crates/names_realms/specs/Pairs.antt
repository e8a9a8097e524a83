-- Pairs of a key and a value, and what is wrong with two texts that make none.
use Rattle.std.specs.Prelude.{ℕ, ◌≤◌, ◌==◌, if◌then◌else◌, List, length, Option, Some, None, option_map}
use Rattle.std.specs.Option.{option_or}
use Rattle.std.specs.Str.{IsUtf8}
use Rattle.std.specs.Str.Lossy.{utf8_valid_len}
use Rattle.name_parts.specs.declared.faults.NameFault.{NameFault}
use Rattle.name_parts.specs.declared.parts.PartForm.TheVariants.{PairKey}
use Rattle.names_realms.specs.declared.pairs.PairFault.{PairFault}
use Rattle.names_realms.specs.declared.pairs.PairFault.TheVariants.{Key, Value}
use Rattle.name_parts.specs.Parts.{IsPart, limited_fault, part_fault}

-- words of lower-case letters, digits and `_`, each of which begins with a letter, parted by `/`,
-- of at most 64 bytes
abbrev pub IsPairKey : List ℕ → Type 0
IsPairKey key = IsPart PairKey key

-- at most 256 bytes of UTF-8
abbrev pub IsPairValue : List ℕ → Type 0
IsPairValue value = IsUtf8 value × (length value ≤ 256)

-- the first place where no UTF-8 goes on
abbrev pub utf8_place : List ℕ → Option ℕ
utf8_place text = if utf8_valid_len text == length text then None else Some (utf8_valid_len text)

abbrev pub pair_value_fault : List ℕ → Option NameFault
pair_value_fault value = limited_fault 256 (length value) (utf8_place value)

-- the key is judged first
abbrev pub pair_fault : List ℕ → List ℕ → Option PairFault
pair_fault key value =
    option_or (option_map Key (part_fault PairKey key)) (option_map Value (pair_value_fault value))
