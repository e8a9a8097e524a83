-- Counts of requests and verdicts.
use Rattle.std.proofs.Common.{◌≡◌, ℕ, ◌+◌, ◌-◌, ◌^◌, min, cond, Bool, true, false, List, [], ◌∷◌, ◌++◌, length, refl, sym, ap, ◌∙◌, subst, arith, append_assoc, append-nil, length-append}
use Rattle.std.specs.Prelude.{count_by, fold}
use Rattle.std.proofs.lemmas.Bool.Decides.{nat_tests}
use Rattle.serde_json.specs.Data.{Data}
use Rattle.workload_turns.specs.Tallies.{Counts, has_status, how_many, tally_of, up_to_most}
use Rattle.workload_turns.specs.declared.tally.Tally.{Tally}

pub counts_none : (t : Tally) → Counts t 0 [] t
counts_none t n earlier is =
    is ∙ ap (λ m. tally_of m earlier) (sum n) ∙ ap (tally_of (n + 0)) (sym (append-nil earlier))
  where
    sum : (n : ℕ) → n ≡ n + 0
    sum n = omega arith

pub counts_both : (a b c : Tally) (m k : ℕ) (vs ws : List Data) → Counts a m vs b → Counts b k ws c → Counts a (m + k) (vs ++ ws) c
counts_both a b c m k vs ws first then n earlier is =
    then (n + m) (earlier ++ vs) (first n earlier is)
    ∙ ap (λ j. tally_of j ((earlier ++ vs) ++ ws)) (sum n m k) ∙ ap (tally_of (n + (m + k))) (append_assoc earlier vs ws)
  where
    sum : (n m k : ℕ) → (n + m) + k ≡ n + (m + k)
    sum n m k = omega arith

pub counts_as : (a b : Tally) (m k : ℕ) (vs ws : List Data) → m ≡ k → vs ≡ ws → Counts a m vs b → Counts a k ws b
counts_as a b m k vs ws numbers lists counts =
    subst (λ (j : ℕ). Counts a j ws b) numbers (subst (λ (l : List Data). Counts a m l b) lists counts)

-- a number that stops at the greatest
pub one_up : (n : ℕ) → min (up_to_most n + 1) (2 ^ 64 - 1) ≡ up_to_most (n + 1)
one_up n = grind (arith, nat_tests)

count_from : (p : Data → Bool) (xs : List Data) (n : ℕ) (y : Data)
    → fold (λ a x. a + cond (p x) 1 0) n (xs ++ y ∷ []) ≡ fold (λ a x. a + cond (p x) 1 0) n xs + cond (p y) 1 0
count_from p [] n y = refl
count_from p (x ∷ xs) n y = count_from p xs (n + cond (p x) 1 0) y

count_yes : (p : Data → Bool) (xs : List Data) (y : Data) → p y ≡ true → count_by p (xs ++ y ∷ []) ≡ count_by p xs + 1
count_yes p xs y h = count_from p xs 0 y ∙ ap (λ b. count_by p xs + cond b 1 0) h

count_no : (p : Data → Bool) (xs : List Data) (y : Data) → p y ≡ false → count_by p (xs ++ y ∷ []) ≡ count_by p xs
count_no p xs y h = count_from p xs 0 y ∙ ap (λ b. count_by p xs + cond b 1 0) h ∙ nothing (count_by p xs)
  where
    nothing : (n : ℕ) → n + 0 ≡ n
    nothing n = omega arith

-- one verdict more, of this status and of another
pub how_many_more : (name : List ℕ) (vs : List Data) (v : Data) (number : ℕ) → has_status name v ≡ true → number ≡ how_many name vs
    → min (number + 1) (2 ^ 64 - 1) ≡ how_many name (vs ++ v ∷ [])
how_many_more name vs v number h is =
    ap (λ n. min (n + 1) (2 ^ 64 - 1)) is ∙ one_up (count_by (has_status name) vs) ∙ ap up_to_most (sym (count_yes (has_status name) vs v h))

pub how_many_same : (name : List ℕ) (vs : List Data) (v : Data) (number : ℕ) → has_status name v ≡ false → number ≡ how_many name vs
    → number ≡ how_many name (vs ++ v ∷ [])
how_many_same name vs v number h is = is ∙ ap up_to_most (sym (count_no (has_status name) vs v h))

pub one_longer : (vs : List Data) (v : Data) (number : ℕ) → number ≡ up_to_most (length vs) → min (number + 1) (2 ^ 64 - 1) ≡ up_to_most (length (vs ++ v ∷ []))
one_longer vs v number is =
    ap (λ n. min (n + 1) (2 ^ 64 - 1)) is ∙ one_up (length vs) ∙ ap up_to_most (sym (length-append vs (v ∷ [])))

pub one_request : (n number : ℕ) → number ≡ up_to_most n → min (number + 1) (2 ^ 64 - 1) ≡ up_to_most (n + 1)
one_request n number is = ap (λ m. min (m + 1) (2 ^ 64 - 1)) is ∙ one_up n
