use Rattle.std.proofs.Common.{map, take}
use Rattle.verdict_lists.specs.World.{world_of}
use Rattle.std.specs.List.{AllZip}
use Rattle.query_pages.specs.Seen.{seen_held}
use Rattle.query_pages.specs.Shown.{IsShownResult}
use Rattle.query_pages.proofs.showing.shown_results.Given as goal

abbrev pub invariant-loop-place : goal.invariant-loop-place
invariant-loop-place l =
    AllZip (IsShownResult (world_of l.view) l.granted.policy l.granted.caller) (take l.place-index l.places) (map seen_held l.shown.items)
