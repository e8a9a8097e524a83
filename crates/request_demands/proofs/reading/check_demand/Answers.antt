use Rattle.std.proofs.Common.{option_map, sym, ap, ◌∙◌}
use Rattle.request_demands.specs.Demands.{Demand}
use Rattle.request_demands.proofs.reading.check_demand.Goals as goal

pub returns-in-Some : goal.returns-in-Some
returns-in-Some c =
    c.check_shown.ensures c.args.demand.now
    (sym (ap (λ (d : Demand). d.changed) c.demand.view_is) ∙ ap (option_map (λ id. id.now)) c.in-Some.is)
