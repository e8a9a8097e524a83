use Rattle.policy_reading.specs.CycleSearch.{IsLeastBefore}
use Rattle.policy_reading.proofs.cycle.least_back.Given as goal

abbrev pub invariant-loop-place : goal.invariant-loop-place
invariant-loop-place l = IsLeastBefore l.graph l.realms l.place l.kept
