use Rattle.std.proofs.Common.{◌≡◌, take, drop}
use Rattle.sink_plans.specs.Results.{results_from}
use Rattle.sink_plans.proofs.results.take_results.Given as goal

abbrev pub invariant-loop-at : goal.invariant-loop-at
invariant-loop-at l = record {
  results : l.results.items ≡ results_from l.naming.digest l.naming.prefix.now l.first (take l.at l.fn.cases.items);
  left : l.cases.items ≡ drop l.at l.fn.cases.items;
}
