-- Callers, place by place.
use Rattle.std.proofs.Common.{◌≡◌, ℕ, suc, ◌<◌, List, [], ◌∷◌, ◌++◌, length, take, get_or, sym, ap, ◌∙◌, subst, arith}
use Rattle.std.specs.List.{AllZip}
use Rattle.std.proofs.lemmas.List.{get_or_default}
use Rattle.std.proofs.Math.Seq.{take-append_seam}

-- what holds at each place of two lists that are as long
zip_each : {X Y : Type 0} (R : X → Y → Type 0) (xs : List X) (ys : List Y) → length xs ≡ length ys
    → ((k : ℕ) (d : X) (e : Y) → k < length xs → R (get_or xs k d) (get_or ys k e)) → AllZip R xs ys
zip_each R [] [] same each = tt
zip_each R [] (y ∷ ys) same each = absurd (omega (arith, same))
zip_each R (x ∷ xs) [] same each = absurd (omega (arith, same))
zip_each R (x ∷ xs) (y ∷ ys) same each = (
  each 0 x y (omega arith),
  zip_each R xs ys (omega (arith, same)) (λ k d e below. each (suc k) d e (omega (arith, below))),
)

-- of a slice that has these values
pub zip_all : {X : Type 0} (R : X → X → Type 0) (xs lent done : List X) → lent ≡ xs → length done ≡ length lent
    → ((k : ℕ) (d : X) → k < length lent → R (get_or lent k d) (get_or done k d)) → AllZip R xs done
zip_all {X} R xs lent done is same each =
    subst (λ (l : List X). AllZip R l done) is
    (zip_each R lent done (sym same)
    (λ k d e below.
    let there : k < length done = omega (arith, below, same) in
    subst (λ (y : X). R (get_or lent k d) y) (get_or_default done k d e there) (each k d below)))

-- a list that fills its room
pub filled : {X : Type 0} (n : ℕ) (xs more : List X) → length xs ≡ n → take n (xs ++ more) ≡ xs
filled n xs more same = ap (λ k. take k (xs ++ more)) (sym same) ∙ take-append_seam xs more
