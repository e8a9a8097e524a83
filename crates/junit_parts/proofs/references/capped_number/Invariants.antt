use Rattle.std.proofs.Common.{◌≡◌, ◌≤◌, min, drop}
use Rattle.junit_parts.specs.References.{number_from}
use Rattle.junit_parts.proofs.references.capped_number.Given as goal

abbrev pub invariant-loop-digit : goal.invariant-loop-digit
invariant-loop-digit l = record {
  same : min l.cap (number_from l.base l.number (drop l.digit-index l.digits)) ≡ min l.cap (number_from l.base 0 l.digits);
  few : l.number ≤ l.cap;
}
