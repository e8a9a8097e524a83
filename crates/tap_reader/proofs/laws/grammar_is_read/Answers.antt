use Rattle.tap_reader.proofs.VersionLemmas.{grammar_is_read_proof}
use Rattle.tap_reader.proofs.laws.grammar_is_read.Goals as goal

pub returns : goal.returns
returns c = grammar_is_read_proof
