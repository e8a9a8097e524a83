use Rattle.std.proofs.Common.{subst}
use Rattle.verdict_lists.specs.declared.verdict.Verdict.{Verdict}
use Rattle.verdict_lists.specs.World.{world_of}
use Rattle.query_pages.specs.Seen.{SeenVerdict, seen_verdict}
use Rattle.query_pages.specs.Shown.{IsShownVerdict}
use Rattle.query_pages.proofs.ZipLemmas.{zip_more}
use Rattle.query_pages.proofs.showing.shown_verdicts.Goals as goal

pub loop-verdict-preserved : goal.loop-verdict-preserved
loop-verdict-preserved c =
    let so : Verdict → SeenVerdict → Type 0 = IsShownVerdict (world_of c.args.view.now) c.args.rights.now.results.policy c.args.rights.now.results.caller c.args.count in
    zip_more so seen_verdict c.args.verdicts.now c.loop-verdict.verdict-index c.verdict-item.result c.loop-verdict.shown.items c.push.new.self.items
    c.in_ok-shown_verdict.field-0 c.loop-verdict-test.true c.in_ok-push.ensures.items c.loop-verdict.invariant
    (subst (λ v. so v (seen_verdict c.in_ok-shown_verdict.field-0)) c.verdict-item.is c.in_ok-shown_verdict.ensures)
