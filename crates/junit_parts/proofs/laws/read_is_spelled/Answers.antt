use Rattle.junit_parts.proofs.ConstructLemmas.{read_is_spelled}
use Rattle.junit_parts.proofs.laws.read_is_spelled.Goals as goal

pub returns : goal.returns
returns c = read_is_spelled
