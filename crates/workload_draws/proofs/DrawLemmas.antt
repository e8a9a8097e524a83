-- States behind states, and draws behind draws.
use Rattle.std.proofs.Common.{◌≡◌, ℕ, zero, suc, ◌+◌, ◌*◌, ◌/◌, ◌%◌, ◌^◌, List, [], ◌∷◌, map, ◌++◌, min, if◌then◌else◌, ◌==◌, Option, Some, None, ◌-◌, refl, ap, arith, sym, ◌∙◌}
use Rattle.std.specs.List.{range_with_len}
use Rattle.std.proofs.lemmas.List.FromFn.{map-range_with_len_more}
use Rattle.workload_draws.specs.Draws.{next_state, state_behind, draw}
use Rattle.workload_draws.specs.Drawn.{first_draw, included, result_at, results_at}
use Rattle.workload_draws.specs.declared.drawn.DrawnResult.{DrawnResult}

state_behind-state_behind : (x m n : ℕ) → state_behind (state_behind x m) n ≡ state_behind x (m + n)
unfolding state_behind
state_behind-state_behind x m zero = ap (state_behind x) (omega arith)
state_behind-state_behind x m (suc n) =
    let e : m + suc n ≡ suc (m + n) = omega arith in
    rw e (ap next_state (state_behind-state_behind x m n))

-- so many draws, and then so many more
pub state_behind_both : (x m n k : ℕ) → m + n ≡ k → state_behind (state_behind x m) n ≡ state_behind x k
state_behind_both x m n k e = state_behind-state_behind x m n ∙ ap (state_behind x) e

pub draw_both : (x m n k : ℕ) → m + n ≡ k → draw (state_behind x m) n ≡ draw x k
draw_both x m n k e = ap (λ s. s / 2 ^ 33) (state_behind_both x m (n + 1) (k + 1) (omega arith))

-- a result's draws behind others
pub result_at_both : (x m n k : ℕ) → m + n ≡ k → result_at (state_behind x m) n ≡ result_at x k
result_at_both x m n k e =
    let a = draw_both x m n k e in
    let b = draw_both x m (n + 1) (k + 1) (omega arith) in
    let d = draw_both x m (n + 2) (k + 2) (omega arith) in
    cc

pub results_at_both : (x m n k : ℕ) → m + n ≡ k → results_at (state_behind x m) n ≡ results_at x k
unfolding results_at
results_at_both x m n k e = each (range_with_len 0 10)
  where
    each : (ks : List ℕ) → map (λ j. result_at (state_behind x m) (n + 3 * j)) ks ≡ map (λ j. result_at x (k + 3 * j)) ks
    each [] = refl
    each (j ∷ ks) =
        let first = result_at_both x m (n + 3 * j) (k + 3 * j) (omega arith) in
        let later = each ks in
        cc

-- so many results, whose first draws follow
abbrev pub results_of : ℕ → ℕ → List DrawnResult
results_of x n = map (λ k. result_at x (3 * k)) (range_with_len 0 n)

pub one_more : (x n : ℕ) → results_of x (n + 1) ≡ results_of x n ++ result_at (state_behind x (3 * n)) 0 ∷ []
one_more x n =
    map-range_with_len_more (λ k. result_at x (3 * k)) 0 n n (omega arith)
    ∙ ap (λ r. results_of x n ++ r ∷ []) (sym (result_at_both x (3 * n) 0 (3 * n) (omega arith)))

pub all_ten : (x : ℕ) → results_of x 10 ≡ results_at x 0
unfolding results_at
all_ten x = each (range_with_len 0 10)
  where
    each : (ks : List ℕ) → map (λ j. result_at x (3 * j)) ks ≡ map (λ j. result_at x (0 + 3 * j)) ks
    each [] = refl
    each (j ∷ ks) =
        let first : result_at x (3 * j) ≡ result_at x (0 + 3 * j) = ap (result_at x) (omega arith) in
        let later = each ks in
        cc

pub no_draw : (x : ℕ) → state_behind x 0 ≡ x
unfolding state_behind
no_draw x = refl

pub included_both : (x m i : ℕ) → included (state_behind x m) 0 i ≡ included x m i
included_both x m i = ap (λ d. if i == 0 then None else Some (d % i)) (draw_both x m 0 m (omega arith))

-- the results' draws stand behind the one that may come first
pub first_result : (i : ℕ) → first_draw i + min i 1 ≡ 32 * i
first_result zero = refl
first_result (suc i) = omega arith
