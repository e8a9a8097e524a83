use Rattle.std.proofs.Common.{◌≡◌, ◌*◌, ◌-◌, ◌≤◌, vec_len}
use Rattle.workload_draws.specs.Draws.{state_behind}
use Rattle.workload_draws.proofs.DrawLemmas.{results_of}
use Rattle.workload_draws.proofs.draws.Draws.results.Given as goal

abbrev pub invariant-loop-results : goal.invariant-loop-results
invariant-loop-results l = record {
  few : vec_len l.results ≤ 10;
  drawn : l.results.items ≡ results_of l.fn.self (vec_len l.results);
  left : l.self ≡ state_behind l.fn.self (3 * vec_len l.results);
}

abbrev pub decreases-loop-results : goal.decreases-loop-results
decreases-loop-results l = 10 - vec_len l.results
