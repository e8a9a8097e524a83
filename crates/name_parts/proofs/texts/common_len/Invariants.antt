use Rattle.std.proofs.Common.{◌≡◌, ◌+◌, ◌-◌, ◌≤◌, length, drop, nat_eq}
use Rattle.std.specs.List.{common_prefix_len}
use Rattle.name_parts.proofs.texts.common_len.Given as goal

abbrev pub invariant-loop-at : goal.invariant-loop-at
invariant-loop-at l =
    (l.at ≤ length l.text) × (common_prefix_len nat_eq l.text l.literal ≡ l.at + common_prefix_len nat_eq (drop l.at l.text) (drop l.at l.literal))

abbrev pub decreases-loop-at : goal.decreases-loop-at
decreases-loop-at l = length l.text - l.at
