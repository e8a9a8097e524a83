-- Sums over lists, and lists that are beginnings of one another.
use Rattle.std.proofs.Common.{◌≡◌, ◌≢◌, ℕ, zero, suc, ◌+◌, ◌≤◌, List, [], ◌∷◌, ◌++◌, length, slice_set, refl, sym, ap, arith}
use mathlib.Core.Option.{some, some-injective, some-ne-none}
use lib.ListN.{get_elem?}
use Rattle.turnstile.specs.Histories.{times}
use Rattle.turnstile.specs.Rule.{total}

module _ {A : Type 0} (f : A → ℕ) where
  pub total_set : (l : List A) (i : ℕ) (v w : A) → get_elem? l i ≡ some v → total f (slice_set l i w) + f v ≡ total f l + f w
  total_set [] i v w h = absurd (some-ne-none v (sym h))
  total_set (x ∷ xs) zero v w h = let e : f x ≡ f v = ap f (some-injective x v h) in omega arith
  total_set (x ∷ xs) (suc i) v w h = let more = total_set xs i v w h in omega arith

  pub total-append : (xs ys : List A) → total f (xs ++ ys) ≡ total f xs + total f ys
  total-append [] ys = omega arith
  total-append (x ∷ xs) ys = let more = total-append xs ys in omega arith

  pub total_one : (l : List A) (i : ℕ) (v : A) → get_elem? l i ≡ some v → f v ≤ total f l
  total_one [] i v h = absurd (some-ne-none v (sym h))
  total_one (x ∷ xs) zero v h = let e : f x ≡ f v = ap f (some-injective x v h) in omega arith
  total_one (x ∷ xs) (suc i) v h = let more = total_one xs i v h in omega arith

  pub total_two : (l : List A) (i j : ℕ) (v w : A) → i ≢ j → get_elem? l i ≡ some v → get_elem? l j ≡ some w → f v + f w ≤ total f l
  total_two [] i j v w n h k = absurd (some-ne-none v (sym h))
  total_two (x ∷ xs) zero zero v w n h k = absurd (n refl)
  total_two (x ∷ xs) zero (suc j) v w n h k = let e : f x ≡ f v = ap f (some-injective x v h) in let more = total_one xs j w k in omega arith
  total_two (x ∷ xs) (suc i) zero v w n h k = let e : f x ≡ f w = ap f (some-injective x w k) in let more = total_one xs i v h in omega arith
  total_two (x ∷ xs) (suc i) (suc j) v w n h k = let more = total_two xs i j v w (λ e. n (ap suc e)) h k in omega arith

pub times-append : (n : ℕ) (xs ys : List ℕ) → times n (xs ++ ys) ≡ times n xs + times n ys
times-append n [] ys = omega arith
times-append n (x ∷ xs) ys = let more = times-append n xs ys in omega arith

-- of two beginnings of one list, the longer one begins with the other
pub rest_of : {A : Type 0} (xs ys l m : List A) → length ys ≤ length xs → xs ++ l ≡ ys ++ m → (r : List A) × (xs ≡ ys ++ r) × (m ≡ r ++ l)
rest_of xs [] l m least e = (xs, refl, sym e)
rest_of [] (y ∷ ys) l m least e = absurd (omega arith)
rest_of (x ∷ xs) (y ∷ ys) l m least e =
    let head : x ≡ y = cc in
    let tail : xs ++ l ≡ ys ++ m = cc in
    let more = rest_of xs ys l m (omega arith) tail in
    (more.0, (λ i. head i ∷ more.1 i), more.2)
