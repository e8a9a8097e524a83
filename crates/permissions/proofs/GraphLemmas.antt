-- Walks over a graph.
use Rattle.std.proofs.Common.{◌≡◌, ℕ, suc, ◌<◌, true, false, List, [], ◌∷◌, ◌++◌, length, get_or, refl, sym, subst, inl, inr, arith, eq-eqb}
use Rattle.std.specs.Prelude.{◌==◌}
use Rattle.std.proofs.lemmas.Bool.{eqb-true, or_cases}
use Rattle.std.proofs.lemmas.List.Folds.{list_any_at}
use Rattle.permissions.specs.Graph.{has, edges, IsWalkOn, ReachesOn}

-- an element has a place
pub has_at : (q : ℕ) (xs : List ℕ) → has q xs ≡ true → (i : ℕ) × (i < length xs) × (get_or xs i 0 ≡ q)
has_at q [] e = let no : false ≡ true = e in cc
has_at q (x ∷ xs) e = elim (or_cases (x == q) (has q xs) e) [
  | inl here ↦ (0, omega arith, eqb-true x q here)
  | inr later ↦ let (i, below, is) = has_at q xs later in (suc i, omega arith, is)
]

-- what stands at a place is an element
pub has_of : (xs : List ℕ) (i : ℕ) → i < length xs → has (get_or xs i 0) xs ≡ true
has_of xs i below = list_any_at (λ p. p == get_or xs i 0) xs i 0 below (eq-eqb _ _ refl)

pub walk-last : (graph : List (List ℕ)) (p : ℕ) (xs : List ℕ) (r q : ℕ) → IsWalkOn graph p xs r → has q (edges graph r) ≡ true → IsWalkOn graph p (xs ++ q ∷ []) q
walk-last graph p [] r q w e = (subst (λ (s : ℕ). has q (edges graph s) ≡ true) (sym w) e, refl)
walk-last graph p (x ∷ xs) r q w e = (w.0, walk-last graph x xs r q w.1 e)

-- one step more
pub reaches_on : (graph : List (List ℕ)) (p r q : ℕ) → ReachesOn graph p r → has q (edges graph r) ≡ true → ReachesOn graph p q
reaches_on graph p r q w e = record { first = w.first; others = w.others ++ q ∷ []; walk = walk-last graph p (w.first ∷ w.others) r q w.walk e }

-- the first step
pub reaches_at_once : (graph : List (List ℕ)) (p q : ℕ) → has q (edges graph p) ≡ true → ReachesOn graph p q
reaches_at_once graph p q e = record { first = q; others = []; walk = (e, refl) }
