use Rattle.std.proofs.Common.{◌≡◌, ◌≤◌, length, drop, true}
use Rattle.junit_parts.specs.Tags.{are_distinct}
use Rattle.junit_parts.proofs.TagLemmas.{HasNames, names_of}
use Rattle.junit_parts.proofs.tags.are_distinct.Given as goal

abbrev pub invariant-loop-at : goal.invariant-loop-at
invariant-loop-at l = record {
  within : l.at ≤ length l.attributes;
  distinct : are_distinct (drop l.at (names_of l.attributes)) ≡ true;
  names : HasNames l.behind (drop l.at (names_of l.attributes));
}

abbrev pub decreases-loop-at : goal.decreases-loop-at
decreases-loop-at l = l.at
