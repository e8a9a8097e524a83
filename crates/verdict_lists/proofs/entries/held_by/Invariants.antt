use Rattle.std.proofs.Common.{◌≡◌, take}
use Rattle.verdict_lists.specs.Entries.{entries_of}
use Rattle.verdict_lists.specs.World.{world_of}
use Rattle.verdict_lists.proofs.entries.held_by.Given as goal

abbrev pub invariant-loop-holder : goal.invariant-loop-holder
invariant-loop-holder l = l.entries.items ≡ entries_of (world_of l.view) (take l.holder-index l.holders)
