use Rattle.std.specs.Option.{option_copied}
use Rattle.verdict_lists.specs.World.{world_of}
use Rattle.query_pages.specs.Shown.{IsExplained}
use Rattle.query_pages.proofs.ZipLemmas.{zip_more}
use Rattle.query_pages.proofs.showing.explanations.Goals as goal

pub loop-place-preserved : goal.loop-place-preserved
loop-place-preserved c =
    zip_more (IsExplained (world_of c.args.view.now) c.args.granted.now.policy c.args.granted.now.caller) option_copied c.args.places.now
    c.loop-place.place-index 0 c.loop-place.told.items c.push.new.self.items c.explanation.result c.loop-place-test.true c.in_ok-push.ensures.items
    c.loop-place.invariant c.explanation.ensures
