use Rattle.std.proofs.Common.{◌≡◌, [], map, take}
use Rattle.verdict_lists.specs.Groups.{plain}
use Rattle.verdict_lists.specs.Verdicts.{AreNumbered}
use Rattle.verdict_lists.specs.World.{world_of}
use Rattle.verdict_lists.proofs.orders.number.Given as goal

abbrev pub invariant-loop-at : goal.invariant-loop-at
invariant-loop-at l = record {
  plain : map plain l.verdicts.items ≡ map plain l.fn.verdicts.items;
  numbered : AreNumbered (world_of l.view) [] (take l.at l.verdicts.items);
}
