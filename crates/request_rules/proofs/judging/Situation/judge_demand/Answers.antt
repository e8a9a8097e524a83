use Rattle.std.proofs.Common.{arith}
use Rattle.request_rules.specs.declared.rules.Rule.TheVariants.{RequestIdReused}
use Rattle.request_rules.specs.Breaches.{case_of}
use Rattle.request_rules.specs.Broken.{IsBroken}
use Rattle.request_rules.proofs.Firsts.{judged_all, judged_here, judged_on}
use Rattle.request_rules.proofs.judging.Situation.judge_demand.Goals as goal

pub returns-in-Some : goal.returns-in-Some
returns-in-Some c = λ kept asked checked numbered.
    c.loop-rule.invariant kept asked checked numbered _
    (judged_here (IsBroken (case_of c.args.self.now kept asked c.args.call.now.caller) c.args.demand.now) c.args.rules.now c.loop-rule.rule-index RequestIdReused _ (omega arith)
    (c.in-Some.ensures kept asked checked numbered))

pub loop-rule-preserved : goal.loop-rule-preserved
loop-rule-preserved c = λ kept asked checked numbered found rest.
    c.loop-rule.invariant kept asked checked numbered found
    (judged_on (IsBroken (case_of c.args.self.now kept asked c.args.call.now.caller) c.args.demand.now) c.args.rules.now c.loop-rule.rule-index RequestIdReused (omega arith)
    (c.in_default.ensures kept asked checked numbered) found rest)

pub returns : goal.returns
returns c = λ kept asked checked numbered.
    c.loop-rule.invariant kept asked checked numbered _
    (judged_all (IsBroken (case_of c.args.self.now kept asked c.args.call.now.caller) c.args.demand.now) c.args.rules.now c.loop-rule.rule-index (omega arith))
