use Rattle.std.proofs.Common.{◌≡◌, ◌+◌, ◌∙◌, ap, refl, arith}
use Rattle.workload_draws.specs.Draws.{draw, state_behind}
use Rattle.workload_draws.proofs.DrawLemmas.{state_behind_both, draw_both}
use Rattle.workload_draws.proofs.draws.Draws.result.Goals as goal

pub returns-clause-drawn : goal.returns-clause-drawn
returns-clause-drawn c =
    let x = c.args.self.now in
    let first = c.next-test.ensures.left in
    let second : c.next.new.self ≡ state_behind x 2 = c.next.ensures.left ∙ ap (λ s. state_behind s 1) first ∙ state_behind_both x 1 1 2 refl in
    let a : c.next-test.result ≡ draw x 0 = c.next-test.ensures.drawn in
    let b : c.next.result ≡ draw x 1 = c.next.ensures.drawn ∙ ap (λ s. draw s 0) first ∙ draw_both x 1 0 1 refl in
    let d : c.next-2.result ≡ draw x 2 = c.next-2.ensures.drawn ∙ ap (λ s. draw s 0) second ∙ draw_both x 2 0 2 refl in
    let e = c.status_of-status.ensures in
    cc

pub returns-clause-left : goal.returns-clause-left
returns-clause-left c =
    let x = c.args.self.now in
    let second : c.next.new.self ≡ state_behind x 2 = c.next.ensures.left ∙ ap (λ s. state_behind s 1) c.next-test.ensures.left ∙ state_behind_both x 1 1 2 refl in
    c.next-2.ensures.left ∙ ap (λ s. state_behind s 1) second ∙ state_behind_both x 2 1 3 refl
