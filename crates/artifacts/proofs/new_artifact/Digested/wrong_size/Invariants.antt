use Rattle.artifacts.specs.Requests.{AreSizesRight}
use Rattle.artifacts.proofs.new_artifact.Digested.wrong_size.Given as goal

abbrev pub invariant-loop-index : goal.invariant-loop-index
invariant-loop-index l = AreSizesRight l.self l.index
