use Rattle.std.proofs.Common.{◌≡◌, ◌+◌, ◌*◌, ◌++◌, ◌∷◌, [], vec_len, ap, refl, sym, ◌∙◌, arith}
use Rattle.workload_draws.specs.Draws.{state_behind}
use Rattle.workload_draws.specs.Drawn.{result_at, results_at}
use Rattle.workload_draws.proofs.DrawLemmas.{no_draw, state_behind_both, results_of, one_more, all_ten}
use Rattle.workload_draws.proofs.draws.Draws.results.Goals as goal

pub loop-results-init : goal.loop-results-init
loop-results-init c =
    let none : vec_len c.in_ok-results.results ≡ 0 = c.in_ok-results.ensures.len in
    record {
      few = omega arith;
      drawn = rw none c.in_ok-results.ensures.items;
      left = rw none (sym (no_draw c.args.self.now));
    }

pub loop-results-preserved : goal.loop-results-preserved
loop-results-preserved c =
    let x = c.args.self.now in
    let n = vec_len c.loop-results.results in
    let more : vec_len c.push.new.self ≡ n + 1 = c.in_ok-push.ensures.len in
    let before = c.loop-results.invariant in
    let same = before.left in
    record {
      few = omega arith;
      drawn = rw more (c.in_ok-push.ensures.items ∙ ap (λ rs. rs ++ c.result.result ∷ []) before.drawn
          ∙ ap (λ r. results_of x n ++ r ∷ []) (c.result.ensures.drawn ∙ ap (λ s. result_at s 0) same) ∙ sym (one_more x n));
      left = rw more (c.result.ensures.left ∙ ap (λ s. state_behind s 3) same ∙ state_behind_both x (3 * n) 3 (3 * (n + 1)) (omega arith));
    }

pub returns-clause-drawn : goal.returns-clause-drawn
returns-clause-drawn c =
    let x = c.args.self.now in
    let all : vec_len c.loop-results.results ≡ 10 = omega arith in
    c.new.ensures ∙ c.loop-results.invariant.drawn ∙ ap (results_of x) all ∙ all_ten x
