-- The code's own words: what a reader of whole numbers answers.
use Rattle.std.specs.Prelude.{ℕ, nat_lt, if◌then◌else◌, Result, Ok, Err}
use Rattle.json_fields.specs.declared.faults.FaultKind.{FaultKind}
use Rattle.json_fields.specs.declared.faults.FaultKind.TheVariants.{WrongKind, BadValue}
use Rattle.json_fields.specs.declared.whys.Why.TheVariants.{NotWhole, Negative, OutOfRange}
use Rattle.field_kinds.specs.Numbers.{Said, no_number, no_whole, below_zero, says}

-- what is answered of what a value says, where no number above the bound is taken
abbrev pub answer : ℕ → Said → Result ℕ FaultKind
answer most no_number = Err WrongKind
answer most no_whole = Err (BadValue NotWhole)
answer most below_zero = Err (BadValue Negative)
answer most (says n) = if nat_lt most n then Err (BadValue OutOfRange) else Ok n
