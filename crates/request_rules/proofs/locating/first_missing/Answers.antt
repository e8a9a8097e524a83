use Rattle.std.proofs.Common.{◌∙◌, ap, sym}
use Rattle.request_rules.specs.Broken.{IsMissing}
use Rattle.request_demands.specs.Demands.{Demand}
use Rattle.request_rules.specs.Locating.{Located}
use Rattle.request_rules.specs.Named.{places_in}
use Rattle.request_rules.proofs.Firsts.{first_in_front, first_in_more, first_of_same}
use Rattle.request_rules.proofs.locating.first_missing.Goals as goal

pub returns-in-Some : goal.returns-in-Some
returns-in-Some c = λ rows held are.
    let named = ap (λ (d : Demand). d.named) c.demand.view_is in
    let places = c.as_slice.ensures.value ∙ (ap (λ (l : Located). l.named) (c.places.view_is ∙ are) ∙ ap (places_in rows) (sym named)) in
    first_in_front (IsMissing rows) c.args.demand.now.named c.args.demand.now.included c.in-Some.id.now
    (first_of_same (IsMissing rows) _ _ _ named (c.in-Some.ensures rows places))

pub returns : goal.returns
returns c = λ rows held are.
    let named = ap (λ (d : Demand). d.named) c.demand.view_is in
    let included = ap (λ (d : Demand). d.included) c.demand.view_is in
    let places = c.as_slice.ensures.value ∙ (ap (λ (l : Located). l.named) (c.places.view_is ∙ are) ∙ ap (places_in rows) (sym named)) in
    let others = c.as_slice-2.ensures.value ∙ (ap (λ (l : Located). l.included) (c.places.view_is ∙ are) ∙ ap (places_in rows) (sym included)) in
    first_in_more (IsMissing rows) c.args.demand.now.named c.args.demand.now.included _
    (first_of_same (IsMissing rows) _ _ _ named (c.in_default.ensures rows places))
    (first_of_same (IsMissing rows) _ _ _ included (c.first_missing_of-2.ensures rows others))
