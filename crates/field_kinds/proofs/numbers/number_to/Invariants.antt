use Rattle.std.proofs.Common.{◌≡◌, ◌≤◌, length, min, true}
use Rattle.std.specs.List.{list_all}
use Rattle.std.specs.Char.{is_ascii_digit}
use Rattle.std.specs.Str.Parse.{digits_value, digits_value_after}
use Rattle.field_kinds.proofs.numbers.number_to.Given as goal

abbrev pub invariant-loop-digit : goal.invariant-loop-digit
invariant-loop-digit l = record {
  digits : list_all is_ascii_digit l.left ≡ true;
  value : min (digits_value_after 10 l.number l.left) l.top ≡ min (digits_value 10 l.digits) l.top;
  most : l.number ≤ l.top;
}

abbrev pub decreases-loop-digit : goal.decreases-loop-digit
decreases-loop-digit l = length l.left
