use Rattle.std.proofs.Common.{map, take}
use Rattle.verdict_lists.specs.World.{world_of}
use Rattle.std.specs.List.{AllZip}
use Rattle.query_pages.specs.Seen.{seen_verdict}
use Rattle.query_pages.specs.Shown.{IsShownVerdict}
use Rattle.query_pages.proofs.showing.shown_verdicts.Given as goal

abbrev pub invariant-loop-verdict : goal.invariant-loop-verdict
invariant-loop-verdict l =
    AllZip (IsShownVerdict (world_of l.view) l.rights.results.policy l.rights.results.caller l.count) (take l.verdict-index l.verdicts)
    (map seen_verdict l.shown.items)
