use Rattle.junit_parts.proofs.ConstructLemmas.{spelled_is_read}
use Rattle.junit_parts.proofs.laws.spelled_is_read.Goals as goal

pub returns : goal.returns
returns c = spelled_is_read
