use Rattle.std.proofs.Common.{length}
use Rattle.verdict_lists.specs.Groups.{IsCut}
use Rattle.verdict_lists.specs.World.{world_of}
use Rattle.verdict_lists.proofs.groups.verdicts_of.Given as goal

abbrev pub invariant-groups : goal.invariant-groups
invariant-groups l = IsCut (world_of l.view) l.entries l.left l.verdicts.items

abbrev pub decreases-groups : goal.decreases-groups
decreases-groups l = length l.left
