use Rattle.std.proofs.Common.{option_map, sym, ap, ◌∙◌}
use Rattle.request_demands.specs.Demands.{Demand}
use Rattle.request_rules.specs.Locating.{Located}
use Rattle.request_rules.proofs.ResultPlaces.{no_result, result_sought}
use Rattle.request_rules.proofs.locating.missing_result.Goals as goal

pub returns-in-Some : goal.returns-in-Some
returns-in-Some c = λ rows held are.
    result_sought rows held c.args.demand.now.row c.in-Some.name.now c.places.inside.row _
    (sym (ap (λ (d : Demand). d.row) c.demand.view_is) ∙ ap (option_map (λ name. name.now)) c.in-Some.is)
    (sym (ap (λ (l : Located). l.row) (c.places.view_is ∙ are))) c.unplaced.ensures

pub returns-in-None : goal.returns-in-None
returns-in-None c = λ rows held are.
    no_result rows held c.args.demand.now.row
    (sym (ap (λ (d : Demand). d.row) c.demand.view_is) ∙ ap (option_map (λ name. name.now)) c.in-None.is)
