use Rattle.junit_parts.proofs.SpeltLemmas.{spelled_value_is_read}
use Rattle.junit_parts.proofs.laws.spelled_value_is_read.Goals as goal

pub returns : goal.returns
returns c = spelled_value_is_read
