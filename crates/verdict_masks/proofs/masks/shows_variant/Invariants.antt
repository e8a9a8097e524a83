use Rattle.std.proofs.Common.{◌<◌, ℕ, get_or}
use Rattle.verdict_lists.specs.World.{world_of}
use Rattle.verdict_masks.specs.Masks.{MaySeeResult}
use Rattle.verdict_masks.proofs.masks.shows_variant.Given as goal

abbrev pub invariant-loop-place : goal.invariant-loop-place
invariant-loop-place l =
    (k : ℕ) → k < l.place-index → ¬ MaySeeResult (world_of l.view) l.granted.policy l.granted.caller (get_or l.verdict.results k 0)
