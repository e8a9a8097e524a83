use Rattle.std.proofs.Common.{◌≡◌, ℕ, ◌+◌, ◌-◌, ◌*◌, min, ap, refl, ◌∙◌, arith}
use Rattle.workload_draws.specs.Draws.{draw, state_behind}
use Rattle.workload_draws.specs.Drawn.{first_draw, included, results_at}
use Rattle.workload_draws.proofs.DrawLemmas.{draw_both, first_result, included_both, results_at_both, state_behind_both}
use Rattle.workload_draws.proofs.draws.Draws.invocation.Goals as goal

pub returns-clause-drawn : goal.returns-clause-drawn
returns-clause-drawn c = λ start is.
    let i = c.args.number in
    let includes : c.included-includes.result ≡ included start (first_draw i) i =
    c.included-includes.ensures.drawn ∙ ap (λ s. included s 0 i) is ∙ included_both start (first_draw i) i in
    let there : c.included-includes.new.self ≡ state_behind start (32 * i) =
    c.included-includes.ensures.left ∙ ap (λ s. state_behind s (min i 1)) is ∙ state_behind_both start (first_draw i) (min i 1) (32 * i) (first_result i) in
    let results : c.in_ok-results.results ≡ results_at start (32 * i) =
    c.in_ok-results.ensures.drawn ∙ ap (λ s. results_at s 0) there ∙ results_at_both start (32 * i) 0 (32 * i) (omega arith) in
    let then : c.results.new.self ≡ state_behind start (32 * i + 30) =
    c.in_ok-results.ensures.left ∙ ap (λ s. state_behind s 30) there ∙ state_behind_both start (32 * i) 30 (32 * i + 30) refl in
    let last : c.next.result ≡ draw start (32 * i + 30) =
    c.next.ensures.drawn ∙ ap (λ s. draw s 0) then ∙ draw_both start (32 * i + 30) 0 (32 * i + 30) (omega arith) in
    cc

pub returns-clause-left : goal.returns-clause-left
returns-clause-left c = λ start is.
    let i = c.args.number in
    let there : c.included-includes.new.self ≡ state_behind start (32 * i) =
    c.included-includes.ensures.left ∙ ap (λ s. state_behind s (min i 1)) is ∙ state_behind_both start (first_draw i) (min i 1) (32 * i) (first_result i) in
    let then : c.results.new.self ≡ state_behind start (32 * i + 30) =
    c.in_ok-results.ensures.left ∙ ap (λ s. state_behind s 30) there ∙ state_behind_both start (32 * i) 30 (32 * i + 30) refl in
    c.next.ensures.left ∙ ap (λ s. state_behind s 1) then ∙ state_behind_both start (32 * i + 30) 1 (first_draw (i + 1)) (omega arith)
