use Rattle.std.proofs.Common.{◌≡◌, ◌<◌, ◌≤◌, ℕ, true}
use Rattle.verdict_masks.specs.Cuts.{is_inside}
use Rattle.verdict_masks.proofs.cuts.cut.Given as goal

abbrev pub invariant-inside : goal.invariant-inside
invariant-inside l = record {
  few : l.end ≤ 140;
  behind : (place : ℕ) → l.end < place → place ≤ 140 → is_inside l.text place ≡ true;
}

abbrev pub decreases-inside : goal.decreases-inside
decreases-inside l = l.end
