-- Numbers of microseconds that stop at a cap.
use Rattle.std.proofs.Common.{◌≡◌, ℕ, ◌+◌, ◌*◌, ◌^◌, min, sym, ap, ◌∙◌, arith, add-one}
use Rattle.std.proofs.Math.Nat.{pow-suc}

-- ten times a number that stopped at the cap
times_ten : (cap x : ℕ) → min (min cap x * 10) cap ≡ min cap (x * 10)
times_ten cap x = omega arith

pub ten_times : (number counter so_far : ℕ) → so_far ≡ min 315_576_000_000_000_001 (number * 10 ^ counter)
    → min (so_far * 10) 315_576_000_000_000_001 ≡ min 315_576_000_000_000_001 (number * 10 ^ (counter + 1))
ten_times number counter so_far is =
    let one : 10 ^ (counter + 1) ≡ 10 ^ counter * 10 = rw add-one (rw pow-suc (omega arith)) in
    let more : number * 10 ^ (counter + 1) ≡ number * 10 ^ counter * 10 = ap (λ p. number * p) one ∙ omega arith in
    ap (λ v. min (v * 10) 315_576_000_000_000_001) is ∙ times_ten 315_576_000_000_000_001 (number * 10 ^ counter)
    ∙ ap (min 315_576_000_000_000_001) (sym more)
