-- The code's own words: which bytes a run is made of.
use Rattle.std.specs.Prelude.{ℕ, Bool}
use Rattle.std.specs.Char.{is_ascii_digit}
use Rattle.junit_parts.specs.Bytes.{continues_name, is_white}
use Rattle.junit_parts.specs.Times.{is_digit_or_comma}
use Rattle.junit_parts.specs.declared.bytes.Run.{Run}
use Rattle.junit_parts.specs.declared.bytes.Run.TheVariants.{White, Name, Digits, DigitsAndCommas}

abbrev pub has : Run → ℕ → Bool
has White b = is_white b
has Name b = continues_name b
has Digits b = is_ascii_digit b
has DigitsAndCommas b = is_digit_or_comma b
