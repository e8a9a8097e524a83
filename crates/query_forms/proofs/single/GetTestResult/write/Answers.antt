use Rattle.query_forms.proofs.SingleLaws.{single_again}
use Rattle.query_forms.proofs.single.GetTestResult.write.Goals as goal

pub returns-clause-again : goal.returns-clause-again
returns-clause-again c = single_again c.args.self.now

pub returns-in_err-write_required-clause-again : goal.returns-in_err-write_required-clause-again
returns-in_err-write_required-clause-again c = single_again c.args.self.now
