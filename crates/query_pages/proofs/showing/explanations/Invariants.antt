use Rattle.std.proofs.Common.{map, take}
use Rattle.std.specs.Option.{option_copied}
use Rattle.verdict_lists.specs.World.{world_of}
use Rattle.std.specs.List.{AllZip}
use Rattle.query_pages.specs.Shown.{IsExplained}
use Rattle.query_pages.proofs.showing.explanations.Given as goal

abbrev pub invariant-loop-place : goal.invariant-loop-place
invariant-loop-place l =
    AllZip (IsExplained (world_of l.view) l.granted.policy l.granted.caller) (take l.place-index l.places) (map option_copied l.told.items)
