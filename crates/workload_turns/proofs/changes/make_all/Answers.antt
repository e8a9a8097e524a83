use Rattle.std.proofs.Common.{◌≡◌, ℕ, ◌+◌, ◌-◌, List, refl, ap, ◌∙◌, arith}
use Rattle.std.specs.List.{flat_map, range_with_len}
use Rattle.call_forms.specs.declared.asked.Asked.{Asked}
use Rattle.workload_plans.specs.Plans.{invocation_asked}
use Rattle.workload_plans.specs.WorkloadDraws.Drawn.{invocation_at}
use Rattle.workload_plans.specs.WorkloadDraws.Draws.{state_behind}
use Rattle.workload_turns.proofs.CourseLaws.{begins, ends, finishes, goes_on, range_next, range_none}
use Rattle.workload_turns.proofs.changes.make_all.Goals as goal

pub loop-at-init : goal.loop-at-init
unfolding state_behind
loop-at-init g c =
    let count = c.args.count in
    let f : ℕ → List Asked = λ i. invocation_asked c.args.asking.secret.now i (invocation_at c.args.number i) in
    let all : count - 0 ≡ count = omega arith in
    record {
      drawn = c.of-draws.ensures;
      stands = c.requires;
      holds = refl;
      goes = begins g.T.Teller.stands c.args.teller.now c.args.tally.now (flat_map f (range_with_len 0 count)) (flat_map f (range_with_len 0 (count - 0)))
          (ap (λ (n : ℕ). flat_map f (range_with_len 0 n)) all);
    }

pub returns-in-Err-clause-asks : goal.returns-in-Err-clause-asks
returns-in-Err-clause-asks g c =
    let at = c.loop-at.at in
    let count = c.args.count in
    let f : ℕ → List Asked = λ i. invocation_asked c.args.asking.secret.now i (invocation_at c.args.number i) in
    ends g.T.Teller.stands _ c.loop-at.teller c.make_one.new.teller _ c.loop-at.tally c.make_one.new.tally _ _ (f at)
    (flat_map f (range_with_len (at + 1) (count - (at + 1)))) c.in-Err.stop c.loop-at.invariant.goes
    (ap (flat_map f) (range_next at count c.loop-at-test.true)) (c.in-Err.ensures.asks c.args.number c.loop-at.invariant.drawn)

pub loop-at-preserved : goal.loop-at-preserved
loop-at-preserved g c =
    let at = c.loop-at.at in
    let count = c.args.count in
    let f : ℕ → List Asked = λ i. invocation_asked c.args.asking.secret.now i (invocation_at c.args.number i) in
    record {
      drawn = c.in_default.ensures.draws c.args.number c.loop-at.invariant.drawn;
      stands = c.in_default.ensures.stands;
      holds = c.in_default.ensures.holds ∙ c.loop-at.invariant.holds;
      goes = goes_on g.T.Teller.stands _ c.loop-at.teller c.make_one.new.teller _ c.loop-at.tally c.make_one.new.tally _ _ (f at)
          (flat_map f (range_with_len (at + 1) (count - (at + 1)))) c.loop-at.invariant.goes (ap (flat_map f) (range_next at count c.loop-at-test.true))
          (c.in_default.ensures.asks c.args.number c.loop-at.invariant.drawn);
    }

pub returns-clause-asks : goal.returns-clause-asks
returns-clause-asks g c =
    let f : ℕ → List Asked = λ i. invocation_asked c.args.asking.secret.now i (invocation_at c.args.number i) in
    finishes g.T.Teller.stands _ c.loop-at.teller _ c.loop-at.tally _ _ c.loop-at.invariant.goes
    (ap (flat_map f) (range_none c.loop-at.at c.args.count c.loop-at-test.false))
