use Rattle.std.proofs.Common.{◌≡◌, take}
use Rattle.workload_plans.specs.Requests.{results_from}
use Rattle.workload_plans.proofs.requests.results_of.Given as goal

abbrev pub invariant-loop-at : goal.invariant-loop-at
invariant-loop-at l = l.results.items ≡ results_from 0 (take l.at l.drawn)
