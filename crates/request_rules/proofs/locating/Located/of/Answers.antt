use Rattle.std.proofs.Common.{ap, ◌∙◌}
use Rattle.request_demands.specs.Demands.{Demand, demand_of}
use Rattle.request_rules.specs.Held.{Held}
use Rattle.request_rules.specs.Named.{places_in}
use Rattle.request_rules.specs.Locating.{artifact_if, place_if, result_if}
use Rattle.request_rules.proofs.ActiveLaws.{active_is, located_as}
use Rattle.request_rules.proofs.locating.Located.of.Goals as goal

pub returns : goal.returns
returns c =
    let rows = c.args.table.now.rows in
    let held : Held = record { results = c.args.results.now.rows; artifacts = c.args.artifacts.now.rows } in
    let same = c.demand.view_is ∙ c.demand_of-demand.ensures in
    let are = c.as_slice.ensures.value ∙ (c.in_ok-named.ensures ∙ ap (λ (d : Demand). places_in rows d.named) c.demand.view_is) in
    located_as rows held (demand_of c.args.request.now) _ _ _ _ _ _
    (c.in_ok-named.ensures ∙ ap (λ (d : Demand). places_in rows d.named) same)
    (c.in_ok-included.ensures ∙ ap (λ (d : Demand). places_in rows d.included) same)
    (c.result_if-row.ensures ∙ ap (λ (d : Demand). result_if rows held.results d.row) same)
    (c.artifact_if-artifact.ensures ∙ ap (λ (d : Demand). artifact_if rows held.artifacts d.artifact) same)
    (active_is rows c.args.request.now _ _ _ c.demand_of-demand.ensures c.active_in-active.ensures are)
    (c.place_if-made.ensures ∙ ap (λ (d : Demand). place_if rows d.makes) same)
