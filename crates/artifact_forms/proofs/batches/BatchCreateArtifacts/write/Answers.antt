use Rattle.form_fields.proofs.RequestLaws.{read_again}
use Rattle.artifact_forms.specs.Methods.{artifacts_form}
use Rattle.artifact_forms.proofs.BatchLaws.{batch_are, batch_fields, batch_made}
use Rattle.artifact_forms.proofs.batches.BatchCreateArtifacts.write.Goals as goal

pub returns-clause-again : goal.returns-clause-again
returns-clause-again c is = read_again artifacts_form batch_fields batch_made batch_are c.args.self.now is
