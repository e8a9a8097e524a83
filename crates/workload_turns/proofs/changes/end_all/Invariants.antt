use Rattle.std.proofs.Common.{◌≡◌, ◌-◌, map}
use Rattle.std.specs.List.{range_with_len}
use Rattle.tellers.specs.Exchange.{StandsForSome}
use Rattle.workload_plans.specs.Plans.{change_asked}
use Rattle.workload_plans.specs.Requests.{finalise_request}
use Rattle.workload_turns.proofs.CourseLaws.{Continues}
use Rattle.workload_turns.proofs.changes.end_all.Given as goal

abbrev pub invariant-loop-at : goal.invariant-loop-at
invariant-loop-at g l = record {
  stands : StandsForSome g.T.Teller.stands l.teller;
  holds : g.T.Teller.holds l.teller ≡ g.T.Teller.holds l.fn.teller;
  goes : Continues g.T.Teller.stands l.fn.teller l.fn.tally
      (map (λ i. change_asked l.asking.secret.now i (finalise_request i)) (range_with_len 0 l.count)) l.teller l.tally
      (map (λ i. change_asked l.asking.secret.now i (finalise_request i)) (range_with_len l.at (l.count - l.at)));
}
