-- What a search over a graph finds.
use Rattle.std.proofs.Common.{◌≡◌, ℕ, suc, ◌+◌, ◌<◌, ◌≤◌, Bool, true, false, ◌||◌, List, [], ◌∷◌, ◌++◌, length, take, get_or, refl, sym, ap, subst, ◌∙◌, inl, inr, arith, eq-eqb}
use Rattle.std.specs.Prelude.{◌==◌, ◌⊎◌}
use Rattle.std.proofs.lemmas.Bool.{cases_Bool, and_parts, eqb-true, or_cases, or_left, or_right}
use Rattle.std.proofs.lemmas.List.{get_or-take}
use Rattle.std.specs.List.{list_all}
use Rattle.std.proofs.lemmas.List.Folds.{list_any_at}
use Rattle.permissions.specs.Graph.{has, edges, IsWalkOn, ReachesOn}
use Rattle.permissions.proofs.GraphLemmas.{has_at, has_of, reaches_at_once, reaches_on}

-- where all that the found places lead to is found
abbrev pub IsClosed : List (List ℕ) → List ℕ → ℕ → List ℕ → Type 0
IsClosed graph found at new = (i : ℕ) → i < at → (q : ℕ) → has q (edges graph (get_or found i 0)) ≡ true → has q new ≡ true

walk_found : (graph : List (List ℕ)) (found : List ℕ) → IsClosed graph found (length found) found → (x : ℕ) (xs : List ℕ) (q : ℕ) → has x found ≡ true → IsWalkOn graph x xs q → has q found ≡ true
walk_found graph found closed x [] q here w = subst (λ (s : ℕ). has s found ≡ true) w here
walk_found graph found closed x (y ∷ ys) q here w =
    let (i, below, is) = has_at x found here in
    let leads : has y (edges graph (get_or found i 0)) ≡ true = subst (λ (s : ℕ). has y (edges graph s) ≡ true) (sym is) w.0 in
    walk_found graph found closed y ys q (closed i below y leads) w.1

-- each place that is reached is found
pub all_found : (graph : List (List ℕ)) (start : ℕ) (found : List ℕ) (at : ℕ) → length found ≤ at → IsClosed graph found at found
    → ((q : ℕ) → has q (edges graph start) ≡ true → has q found ≡ true) → (q : ℕ) → ReachesOn graph start q → has q found ≡ true
all_found graph start found at end closed begun q w =
    walk_found graph found (λ i below. closed i (omega arith)) w.first w.others q (begun w.first w.walk.0) w.walk.1

front_kept : (old new : List ℕ) (i : ℕ) → take (length old) new ≡ old → i < length old → get_or new i 0 ≡ get_or old i 0
front_kept old new i kept below = sym (get_or-take (length old) new i 0 below) ∙ ap (λ xs. get_or xs i 0) kept

pub below_or_at : (i at : ℕ) → i < at + 1 → (i < at) ⊎ (i ≡ at)
below_or_at i at below = elim (cases_Bool (i == at)) [ inl e ↦ inr (eqb-true i at e) | inr e ↦ inl (grind arith) ]

-- one place more whose edges are found
pub closed_more : (graph : List (List ℕ)) (old new : List ℕ) (at : ℕ) → at < length old → take (length old) new ≡ old
    → ((q : ℕ) → has q new ≡ (has q old || has q (edges graph (get_or old at 0)))) → IsClosed graph old at old → IsClosed graph new (at + 1) new
closed_more graph old new at within kept found closed i below q leads =
    elim (below_or_at i at below) [
      | inl before ↦
          let leads' : has q (edges graph (get_or old i 0)) ≡ true = subst (λ (s : ℕ). has q (edges graph s) ≡ true) (front_kept old new i kept (omega arith)) leads in
          found q ∙ or_left _ _ (closed i before q leads')
      | inr is ↦
          let leads' : has q (edges graph (get_or old at 0)) ≡ true =
          subst (λ (s : ℕ). has q (edges graph s) ≡ true) (ap (λ (j : ℕ). get_or new j 0) is ∙ front_kept old new at kept within) leads in
          found q ∙ or_right _ _ leads'
    ]

pub begun_more : (old new others : List ℕ) (q : ℕ) → has q new ≡ (has q old || has q others) → has q old ≡ true → has q new ≡ true
begun_more old new others q found e = found ∙ or_left _ _ e

pub reached_more : (graph : List (List ℕ)) (start r : ℕ) (old new : List ℕ) → ((q : ℕ) → has q new ≡ (has q old || has q (edges graph r)))
    → ((q : ℕ) → has q old ≡ true → ReachesOn graph start q) → has r old ≡ true → (q : ℕ) → has q new ≡ true → ReachesOn graph start q
reached_more graph start r old new found reached here q e =
    elim (or_cases _ _ (sym (found q) ∙ e)) [
      | inl before ↦ reached q before
      | inr leads ↦ reaches_on graph start r q (reached r here) leads
    ]

-- what holds of all holds of each
pub all_has : (f : ℕ → Bool) (xs : List ℕ) (q : ℕ) → list_all f xs ≡ true → has q xs ≡ true → f q ≡ true
all_has f [] q a e = let no : false ≡ true = e in cc
all_has f (x ∷ xs) q a e =
    let parts = and_parts (f x) (list_all f xs) a in
    elim (cases_Bool (x == q)) [
      | inl is ↦ subst (λ (y : ℕ). f y ≡ true) (eqb-true x q is) parts.0
      | inr is ↦ all_has f xs q parts.1 (sym (ap (λ b. b || has q xs) is) ∙ e)
    ]
