use Rattle.std.proofs.Common.{option_map, sym, ap, ◌∙◌}
use Rattle.request_demands.specs.Demands.{Demand}
use Rattle.request_rules.specs.Locating.{Located}
use Rattle.request_rules.proofs.ArtifactPlaces.{artifact_sought, no_artifact}
use Rattle.request_rules.proofs.locating.missing_artifact.Goals as goal

pub returns-in-Some : goal.returns-in-Some
returns-in-Some c = λ rows held are.
    artifact_sought rows held c.args.demand.now.artifact c.in-Some.name.now c.places.inside.artifact _
    (sym (ap (λ (d : Demand). d.artifact) c.demand.view_is) ∙ ap (option_map (λ name. name.now)) c.in-Some.is)
    (sym (ap (λ (l : Located). l.artifact) (c.places.view_is ∙ are))) c.unplaced_artifact.ensures

pub returns-in-None : goal.returns-in-None
returns-in-None c = λ rows held are.
    no_artifact rows held c.args.demand.now.artifact
    (sym (ap (λ (d : Demand). d.artifact) c.demand.view_is) ∙ ap (option_map (λ name. name.now)) c.in-None.is)
