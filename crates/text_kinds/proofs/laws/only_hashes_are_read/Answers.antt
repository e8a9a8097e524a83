use Rattle.text_kinds.proofs.HashLaws.{only_hashes_are_read}
use Rattle.text_kinds.proofs.laws.only_hashes_are_read.Goals as goal

pub returns : goal.returns
returns c = only_hashes_are_read
