use Rattle.upload_laws.proofs.SentFacts.{batches_are_read}
use Rattle.upload_laws.proofs.laws.batches_are_read.Goals as goal

pub returns : goal.returns
returns c = batches_are_read
