use Rattle.verdict_lists.specs.World.{world_of}
use Rattle.query_pages.specs.Seen.{seen_held}
use Rattle.query_pages.specs.Shown.{IsShownResult}
use Rattle.query_pages.proofs.ZipLemmas.{zip_more}
use Rattle.query_pages.proofs.showing.shown_results.Goals as goal

pub loop-place-preserved : goal.loop-place-preserved
loop-place-preserved c =
    zip_more (IsShownResult (world_of c.args.view.now) c.args.granted.now.policy c.args.granted.now.caller) seen_held c.args.places.now
    c.loop-place.place-index 0 c.loop-place.shown.items c.push.new.self.items c.shown_result.result c.loop-place-test.true c.in_ok-push.ensures.items
    c.loop-place.invariant c.shown_result.ensures
