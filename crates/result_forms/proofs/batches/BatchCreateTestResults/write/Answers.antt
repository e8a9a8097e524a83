use Rattle.result_forms.proofs.MethodLaws.{results_again}
use Rattle.result_forms.proofs.batches.BatchCreateTestResults.write.Goals as goal

pub returns-clause-again : goal.returns-clause-again
returns-clause-again c = results_again c.args.self.now
