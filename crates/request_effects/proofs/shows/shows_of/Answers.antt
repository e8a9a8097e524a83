use Rattle.std.proofs.Common.{ap, ◌∙◌}
use Rattle.request_rules.specs.MessageForms.declared.requests.Request.{Request}
use Rattle.request_rules.specs.RequestDemands.Demands.{demand_of}
use Rattle.request_rules.specs.Locating.{Located}
use Rattle.request_rules.specs.Named.{places_in}
use Rattle.request_effects.proofs.shows.shows_of.Goals as goal

pub result_query-requires : goal.result_query-requires
result_query-requires c =
    let rows = c.args.tables.now.world.world.invocations in
    ap (λ (l : Located). l.named) c.requires ∙ ap (λ (r : Request). places_in rows (demand_of r).named) c.in-QueryTestResults.is

pub verdict_query-requires : goal.verdict_query-requires
verdict_query-requires c =
    let rows = c.args.tables.now.world.world.invocations in
    ap (λ (l : Located). l.named) c.requires ∙ ap (λ (r : Request). places_in rows (demand_of r).named) c.in-QueryTestVariants.is
