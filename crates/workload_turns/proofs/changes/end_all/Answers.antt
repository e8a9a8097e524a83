use Rattle.std.proofs.Common.{ℕ, ◌+◌, ◌-◌, [], ◌∷◌, map, ap, ◌∙◌}
use Rattle.std.specs.List.{range_with_len}
use Rattle.call_forms.specs.declared.asked.Asked.{Asked}
use Rattle.workload_plans.specs.Plans.{change_asked}
use Rattle.workload_plans.specs.Requests.{finalise_request}
use Rattle.workload_turns.proofs.CourseLaws.{ends, finishes, goes_on, range_next, range_none}
use Rattle.workload_turns.proofs.changes.end_all.Goals as goal

pub returns-in-Err-clause-asks : goal.returns-in-Err-clause-asks
returns-in-Err-clause-asks g c =
    let at = c.loop-at.at in
    let count = c.args.count in
    let f : ℕ → Asked = λ i. change_asked c.args.asking.secret.now i (finalise_request i) in
    ends g.T.Teller.stands _ c.loop-at.teller c.end_one.new.teller _ c.loop-at.tally c.end_one.new.tally _ _ (f at ∷ [])
    (map f (range_with_len (at + 1) (count - (at + 1)))) c.in-Err.stop c.loop-at.invariant.goes
    (ap (map f) (range_next at count c.loop-at-test.true)) c.in-Err.ensures.asks

pub loop-at-preserved : goal.loop-at-preserved
loop-at-preserved g c =
    let at = c.loop-at.at in
    let count = c.args.count in
    let f : ℕ → Asked = λ i. change_asked c.args.asking.secret.now i (finalise_request i) in
    record {
      stands = c.in_default.ensures.stands;
      holds = c.in_default.ensures.holds ∙ c.loop-at.invariant.holds;
      goes = goes_on g.T.Teller.stands _ c.loop-at.teller c.end_one.new.teller _ c.loop-at.tally c.end_one.new.tally _ _ (f at ∷ [])
          (map f (range_with_len (at + 1) (count - (at + 1)))) c.loop-at.invariant.goes (ap (map f) (range_next at count c.loop-at-test.true))
          c.in_default.ensures.asks;
    }

pub returns-clause-asks : goal.returns-clause-asks
returns-clause-asks g c =
    let f : ℕ → Asked = λ i. change_asked c.args.asking.secret.now i (finalise_request i) in
    finishes g.T.Teller.stands _ c.loop-at.teller _ c.loop-at.tally _ _ c.loop-at.invariant.goes
    (ap (map f) (range_none c.loop-at.at c.args.count c.loop-at-test.false))
