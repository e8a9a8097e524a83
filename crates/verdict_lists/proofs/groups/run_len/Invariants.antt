use Rattle.std.proofs.Common.{◌≡◌, ◌+◌, drop}
use Rattle.std.specs.List.{prefix_len}
use Rattle.verdict_lists.specs.Groups.{is_same}
use Rattle.verdict_lists.specs.World.{world_of}
use Rattle.verdict_lists.proofs.groups.run_len.Given as goal

abbrev pub invariant-loop-at : goal.invariant-loop-at
invariant-loop-at l =
    prefix_len (is_same (world_of l.view) l.first) l.entries ≡ l.at + prefix_len (is_same (world_of l.view) l.first) (drop l.at l.entries)
