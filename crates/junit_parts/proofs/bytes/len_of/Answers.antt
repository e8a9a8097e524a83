use Rattle.junit_parts.proofs.ByteLemmas.{no_place}
use Rattle.junit_parts.proofs.bytes.len_of.Goals as goal

pub returns-in-None-clause-value : goal.returns-in-None-clause-value
returns-in-None-clause-value c = no_place _ _ c.in-None.ensures.place
