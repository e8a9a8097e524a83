use Rattle.artifacts.specs.Requests.{AreHashesRight}
use Rattle.artifacts.proofs.new_artifact.Digested.wrong_hash.Given as goal

abbrev pub invariant-loop-index : goal.invariant-loop-index
invariant-loop-index l = AreHashesRight l.self l.index
