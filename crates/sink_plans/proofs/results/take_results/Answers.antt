use Rattle.std.proofs.Common.{sym, ap, ◌∙◌, arith}
use Rattle.sink_plans.specs.Results.{results_from}
use Rattle.sink_plans.proofs.PlanLemmas.{all_taken, next_result, none_left}
use Rattle.sink_plans.proofs.results.take_results.Goals as goal

pub returns-in-None-clause-results : goal.returns-in-None-clause-results
returns-in-None-clause-results c =
    let naming = c.args.naming.now in
    let all = c.args.cases.now.items in
    let none = none_left _ _ c.in-None.ensures.items c.in-None.ensures.rest in
    let taken = all_taken all c.loop-at.at 200 (sym c.loop-at.invariant.left ∙ none) (omega arith) in
    c.loop-at.invariant.results ∙ ap (results_from naming.digest naming.prefix.now c.args.first) (sym taken.0)

pub returns-in-None-clause-rest : goal.returns-in-None-clause-rest
returns-in-None-clause-rest c =
    let all = c.args.cases.now.items in
    let none = none_left _ _ c.in-None.ensures.items c.in-None.ensures.rest in
    let taken = all_taken all c.loop-at.at 200 (sym c.loop-at.invariant.left ∙ none) (omega arith) in
    sym c.in-None.ensures.items ∙ none ∙ sym taken.1

pub loop-at-preserved : goal.loop-at-preserved
loop-at-preserved c =
    let naming = c.args.naming.now in
    let next = next_result naming.digest naming.prefix.now c.args.first c.args.cases.now.items c.loop-at.at c.in-Some.case c.pop_front.new.self.items (sym c.loop-at.invariant.left ∙ c.in-Some.ensures.items) in
    record {
      results = rw (c.in_ok-push-in-Some.ensures.items, c.in_ok-result_of-in-Some.ensures, c.loop-at.invariant.results) (sym next.0);
      left = sym next.1;
    }
