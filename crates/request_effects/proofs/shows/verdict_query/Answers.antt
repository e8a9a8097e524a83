use Rattle.std.proofs.Common.{ap, ◌∙◌}
use Rattle.service_effects.specs.States.{recorded_in}
use Rattle.request_rules.specs.Named.{all_found}
use Rattle.request_rules.proofs.PlaceLaws.{found_named}
use Rattle.request_effects.specs.Shows.{verdict_query}
use Rattle.request_effects.proofs.QueryFacts.{same_verdict_query}
use Rattle.request_effects.proofs.shows.verdict_query.Goals as goal

pub returns : goal.returns
returns c =
    let q = c.args.q.now in
    same_verdict_query _ (verdict_query (recorded_in c.args.tables.now) q)
    (c.new.ensures ∙ (c.in_ok-roots.ensures ∙ (ap all_found c.requires ∙ found_named c.args.tables.now.world.world.invocations q.invocations)))
    c.in_ok-query.ensures c.in_ok-copied_verdict.ensures c.size.ensures.value c.limit.ensures.value
