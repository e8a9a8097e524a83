-- Results one by one.
use Rattle.std.proofs.Common.{◌≡◌, ℕ, zero, suc, ◌+◌, ◌<◌, List, [], ◌∷◌, ◌++◌, length, get_or, take, ap, arith}
use Rattle.workload_draws.specs.declared.drawn.DrawnResult.{DrawnResult}
use Rattle.workload_plans.specs.Requests.{result_of, results_from}

-- one result more
pub next_result : (k i n : ℕ) (xs : List DrawnResult) (x : DrawnResult) → i < length xs → k + i ≡ n
    → results_from k (take (i + 1) xs) ≡ results_from k (take i xs) ++ result_of n (get_or xs i x) ∷ []
next_result k i n [] x h e = absurd (omega arith)
next_result k zero n (y ∷ ys) x h e =
    let same : k ≡ n = omega arith in
    ap (λ m. result_of m y ∷ []) same
next_result k (suc i) n (y ∷ ys) x h e =
    let more : suc i + 1 ≡ suc (i + 1) = omega arith in
    rw more (ap (λ rs. result_of k y ∷ rs) (next_result (k + 1) i n ys x (omega (arith, h)) (omega (arith, e))))
