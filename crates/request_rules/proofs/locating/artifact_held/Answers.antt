use Rattle.std.proofs.Common.{sym, ap, ◌∙◌}
use Rattle.artifacts.specs.Artifacts.{named}
use Rattle.request_rules.specs.Named.{artifact_held}
use Rattle.request_rules.proofs.ArtifactPlaces.{artifact_found}
use Rattle.request_rules.proofs.locating.artifact_held.Goals as goal

pub returns-in-Some : goal.returns-in-Some
returns-in-Some c =
    artifact_found c.args.held.now.rows (named c.in-Some.holder c.args.name.now) c.find.result c.rows.ensures.table c.find.ensures
    ∙ sym (ap (artifact_held c.args.held.now.rows c.args.name.now) c.in-Some.is)
