use Rattle.junit_parts.proofs.SpeltLemmas.{read_value_is_spelled}
use Rattle.junit_parts.proofs.laws.read_value_is_spelled.Goals as goal

pub returns : goal.returns
returns c = read_value_is_spelled
