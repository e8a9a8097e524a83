use Rattle.std.proofs.Common.{true, false, sym, ap, ◌∙◌}
use Rattle.names_realms.specs.ArtifactNames.{goes_to_tests}
use Rattle.names_realms.proofs.ArtifactNameLemmas.{no_artifact}
use Rattle.names_realms.proofs.artifact_names.ArtifactName.parse.Goals as goal

pub returns-in-Err-clause-refused : goal.returns-in-Err-clause-refused
returns-in-Err-clause-refused c real =
    no_artifact true c.args.text.now c.in-Err.fault (ap goes_to_tests (sym c.behind_id.ensures) ∙ sym c.is_tests.ensures ∙ c.if-is_tests.true) (c.in-Err.ensures.fault real)

pub returns-in-Err-read_name_parts-clause-refused : goal.returns-in-Err-read_name_parts-clause-refused
returns-in-Err-read_name_parts-clause-refused c real =
    no_artifact false c.args.text.now c.in-Err-read_name_parts.fault (ap goes_to_tests (sym c.behind_id.ensures) ∙ sym c.is_tests.ensures ∙ c.if-is_tests.false) (c.in-Err-read_name_parts.ensures.fault real)
