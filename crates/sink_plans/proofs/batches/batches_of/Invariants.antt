use Rattle.std.proofs.Common.{◌≡◌, ◌*◌, map, drop}
use Rattle.sink_plans.specs.Plans.{batch_behind, first_numbers}
use Rattle.sink_plans.proofs.batches.batches_of.Given as goal

abbrev pub invariant-loop-others : goal.invariant-loop-others
invariant-loop-others l = record {
  batches : l.batches.items ≡ map (batch_behind l.naming.digest l.naming.prefix.now l.fn.cases.items) (first_numbers l.others);
  left : l.left.items ≡ drop (200 * l.others) l.fn.cases.items;
}
