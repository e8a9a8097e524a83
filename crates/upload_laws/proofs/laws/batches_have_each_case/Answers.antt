use Rattle.upload_laws.proofs.CaseFacts.{batches_have_each_case}
use Rattle.upload_laws.proofs.laws.batches_have_each_case.Goals as goal

pub returns : goal.returns
returns c = batches_have_each_case
