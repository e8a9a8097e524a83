use Rattle.std.proofs.Common.{◌≡◌, ◌+◌, ◌≤◌, length}
use Rattle.name_parts.specs.Escapes.{spelled}
use Rattle.name_parts.specs.Spellings.{spelling_fault}
use Rattle.name_parts.proofs.escapes.fault_of_spellings.Given as goal

abbrev pub invariant-loop-rest : goal.invariant-loop-rest
invariant-loop-rest l = record {
  same : spelling_fault l.bad 0 0 (spelled l.text) ≡ spelling_fault l.bad l.index l.place (spelled l.rest);
  whole : l.place + length l.rest ≡ length l.text;
  passed : l.index ≤ l.place;
}

abbrev pub decreases-loop-rest : goal.decreases-loop-rest
decreases-loop-rest l = length l.rest
