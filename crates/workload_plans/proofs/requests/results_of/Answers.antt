use Rattle.std.proofs.Common.{◌++◌, ◌∷◌, [], take, ap, sym, ◌∙◌, arith}
use Rattle.std.proofs.lemmas.List.{take_all}
use Rattle.workload_plans.specs.Requests.{results_from}
use Rattle.workload_plans.proofs.PlanLemmas.{next_result}
use Rattle.workload_plans.proofs.requests.results_of.Goals as goal

pub loop-at-init : goal.loop-at-init
loop-at-init c = c.in_ok-results.ensures.items

pub loop-at-preserved : goal.loop-at-preserved
loop-at-preserved c =
    let at = c.loop-at.at in
    let drawn = c.args.drawn.now in
    c.in_ok-push.ensures.items ∙ ap (λ rs. rs ++ c.in_ok-result_of.field-0 ∷ []) c.loop-at.invariant
    ∙ ap (λ r. results_from 0 (take at drawn) ++ r ∷ []) c.in_ok-result_of.ensures ∙ sym (next_result 0 at at drawn _ (omega arith) (omega arith))

pub returns : goal.returns
returns c = c.new.ensures ∙ c.loop-at.invariant ∙ ap (results_from 0) (take_all c.loop-at.at c.args.drawn.now (omega arith))
