use Rattle.form_fields.proofs.RequestLaws.{read_again}
use Rattle.artifact_forms.specs.Methods.{artifact_form}
use Rattle.artifact_forms.proofs.NamedLaws.{named_are, named_fields, named_made}
use Rattle.artifact_forms.proofs.named.GetArtifact.write.Goals as goal

pub returns-clause-again : goal.returns-clause-again
returns-clause-again c is = read_again artifact_form named_fields named_made named_are c.args.self.now is
