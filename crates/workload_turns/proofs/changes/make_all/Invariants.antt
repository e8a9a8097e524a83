use Rattle.std.proofs.Common.{◌≡◌, ◌-◌}
use Rattle.std.specs.List.{flat_map, range_with_len}
use Rattle.tellers.specs.Exchange.{StandsForSome}
use Rattle.workload_plans.specs.Plans.{invocation_asked}
use Rattle.workload_plans.specs.WorkloadDraws.Drawn.{first_draw, invocation_at}
use Rattle.workload_plans.specs.WorkloadDraws.Draws.{state_behind}
use Rattle.workload_turns.proofs.CourseLaws.{Continues}
use Rattle.workload_turns.proofs.changes.make_all.Given as goal

abbrev pub invariant-loop-at : goal.invariant-loop-at
invariant-loop-at g l = record {
  drawn : l.draws ≡ state_behind l.number (first_draw l.at);
  stands : StandsForSome g.T.Teller.stands l.teller;
  holds : g.T.Teller.holds l.teller ≡ g.T.Teller.holds l.fn.teller;
  goes : Continues g.T.Teller.stands l.fn.teller l.fn.tally
      (flat_map (λ i. invocation_asked l.asking.secret.now i (invocation_at l.number i)) (range_with_len 0 l.count)) l.teller l.tally
      (flat_map (λ i. invocation_asked l.asking.secret.now i (invocation_at l.number i)) (range_with_len l.at (l.count - l.at)));
}
