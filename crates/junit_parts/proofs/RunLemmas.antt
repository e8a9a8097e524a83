-- Runs of bytes that pass a test: what is taken passes, what stops them doesn't, and so they are met.
use Rattle.std.proofs.Common.{◌≡◌, ℕ, suc, ◌+◌, Bool, true, false, not, ◌&&◌, List, [], ◌∷◌, ◌++◌, length, take, drop, refl, ap, ◌∙◌, arith}
use Rattle.std.specs.Prelude.{if◌then◌else◌}
use Rattle.std.specs.List.{list_all, prefix_len}
use Rattle.std.proofs.Math.Seq.{drop-append_seam, take-append_seam}

pub by_bool : {P : Type 0} (b : Bool) → (b ≡ true → P) → (b ≡ false → P) → P
by_bool true one other = one refl
by_bool false one other = other refl

-- what stands in front passes
abbrev pub leads : (ℕ → Bool) → List ℕ → Bool
leads p [] = false
leads p (b ∷ bs) = p b

-- one test, said in two ways
abbrev pub Same : (ℕ → Bool) → (ℕ → Bool) → Type 0
Same q p = (b : ℕ) → q b ≡ p b

pub twice_not : (b : Bool) → not (not b) ≡ b
twice_not true = refl
twice_not false = refl

pub one_more : (n : ℕ) → 1 + n ≡ suc n
one_more n = omega arith

pub if_true : {A : Type 0} (b : Bool) (x y : A) → b ≡ true → (if b then x else y) ≡ x
if_true true x y e = refl
if_true false x y e = absurd cc

pub if_false : {A : Type 0} (b : Bool) (x y : A) → b ≡ false → (if b then x else y) ≡ y
if_false true x y e = absurd cc
if_false false x y e = refl

pub taken_pass : (p q : ℕ → Bool) → Same q p → (xs : List ℕ) → list_all p (take (prefix_len q xs) xs) ≡ true
taken_pass p q same [] = refl
taken_pass p q same (b ∷ bs) =
    by_bool (p b)
    (λ is. let here : q b ≡ true = same b ∙ is in let more = one_more (prefix_len q bs) in rw here (rw more (rw is (taken_pass p q same bs))))
    (λ other. let here : q b ≡ false = same b ∙ other in rw here refl)

pub and_both : (a b : Bool) → (a && b) ≡ true → (a ≡ true) × (b ≡ true)
and_both true b e = (refl, e)
and_both false b e = absurd cc

pub met_len : (p q : ℕ → Bool) → Same q p → (xs ys : List ℕ) → list_all p xs ≡ true → leads p ys ≡ false → prefix_len q (xs ++ ys) ≡ length xs
met_len p q same [] [] pass stops = refl
met_len p q same [] (y ∷ ys) pass stops = let here : q y ≡ false = same y ∙ stops in rw here refl
met_len p q same (x ∷ xs) ys pass stops =
    let both = and_both (p x) (list_all p xs) pass in
    let here : q x ≡ true = same x ∙ both.0 in
    rw here (rw (met_len p q same xs ys both.1 stops) (one_more (length xs)))

pub met_front : (p q : ℕ → Bool) → Same q p → (xs ys : List ℕ) → list_all p xs ≡ true → leads p ys ≡ false → take (prefix_len q (xs ++ ys)) (xs ++ ys) ≡ xs
met_front p q same xs ys pass stops = ap (λ n. take n (xs ++ ys)) (met_len p q same xs ys pass stops) ∙ take-append_seam xs ys

pub met_rest : (p q : ℕ → Bool) → Same q p → (xs ys : List ℕ) → list_all p xs ≡ true → leads p ys ≡ false → drop (prefix_len q (xs ++ ys)) (xs ++ ys) ≡ ys
met_rest p q same xs ys pass stops = ap (λ n. drop n (xs ++ ys)) (met_len p q same xs ys pass stops) ∙ drop-append_seam xs ys
