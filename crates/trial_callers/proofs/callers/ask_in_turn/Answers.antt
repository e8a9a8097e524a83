use Rattle.std.proofs.Common.{arith}
use Rattle.trial_callers.proofs.AskingLaws.{all_more, all_nothing}
use Rattle.trial_callers.proofs.callers.ask_in_turn.Goals as goal

pub loop-number-init : goal.loop-number-init
loop-number-init g c = record {
  asked = all_nothing g.T.Teller.stands c.args.teller.now c.nothing-sum.result c.nothing-sum.ensures.calls.0 c.nothing-sum.ensures.calls.1;
  again = c.requires;
  few = let calls = c.nothing-sum.ensures.calls.0 in omega (arith, calls);
}

pub with-sum-requires : goal.with-sum-requires
with-sum-requires g c =
    let few = c.loop-number.invariant.few in
    let own = c.ask_task-heard.ensures.few in
    omega (arith, few, own, c.loop-number-test.true, c.seats-number-end.ensures, c.args.work.few)

pub loop-number-preserved : goal.loop-number-preserved
loop-number-preserved g c =
    let i = c.loop-number.invariant in
    let few = i.few in
    let own = c.ask_task-heard.ensures.few in
    let calls = c.with-sum.ensures.calls in
    record {
      asked = all_more g.T.Teller.stands c.args.teller.now c.loop-number.teller c.ask_task-heard.new.teller c.loop-number.sum c.ask_task-heard.result
          c.with-sum.result i.asked c.ask_task-heard.ensures.counted c.with-sum.ensures.calls c.with-sum.ensures.turns;
      again = c.ask_task-heard.ensures.again;
      few = omega (arith, few, own, calls);
    }
