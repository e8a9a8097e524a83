use Rattle.result_forms.proofs.MethodLaws.{exonerations_again}
use Rattle.result_forms.proofs.batches.BatchCreateTestExonerations.write.Goals as goal

pub returns-clause-again : goal.returns-clause-again
returns-clause-again c = exonerations_again c.args.self.now
