-- Where an order stands, nothing is reached from itself.
use Rattle.std.proofs.Common.{◌≡◌, ℕ, ◌<◌, true, false, List, [], ◌∷◌, ◌++◌, length, sym, subst, ◌∙◌, inl, inr, append_assoc, append-nil}
use Rattle.std.specs.Prelude.{◌==◌}
use Rattle.std.proofs.lemmas.Bool.{eqb-true, or_cases}
use Rattle.policy_tables.specs.declared.tables.PolicyTables.{PolicyTables}
use Rattle.permissions.specs.Cycle.{HasNoCycle}
use Rattle.permissions.specs.Graph.{has, edges, IsGraph, IsWalkOn, ReachesOn, graph_of}
use Rattle.permissions.specs.Order.{IsLaid, IsOrder}
use Rattle.policy_reading.proofs.OrderLemmas.{has_snoc, has_before}
use Rattle.permissions.proofs.ReachLemmas.{itself_over_places, graph-IsGraph, last_edge}

abbrev pub IsClosed : List (List ℕ) → List ℕ → Type 0
IsClosed graph before = (p q : ℕ) → has p before ≡ true → has q (edges graph p) ≡ true → has q before ≡ true

walk_before : (graph : List (List ℕ)) (before : List ℕ) → IsClosed graph before → (x : ℕ) (xs : List ℕ) (q : ℕ) → has x before ≡ true → IsWalkOn graph x xs q → has q before ≡ true
walk_before graph before closed x [] q here w = subst (λ (y : ℕ). has y before ≡ true) w here
walk_before graph before closed x (y ∷ ys) q here w = walk_before graph before closed y ys q (closed x y here w.0) w.1

laid_no_cycle : (graph : List (List ℕ)) (before order : List ℕ) → IsClosed graph before → ((p : ℕ) → has p before ≡ true → ReachesOn graph p p → ⊥)
    → IsLaid graph before order → (p : ℕ) → has p (before ++ order) ≡ true → ReachesOn graph p p → ⊥
laid_no_cycle graph before [] closed none laid p e w = none p (subst (λ (xs : List ℕ). has p xs ≡ true) (append-nil before) e) w
laid_no_cycle graph before (x ∷ xs) closed none laid p e w =
    laid_no_cycle graph (before ++ x ∷ []) xs closed_more none_more laid.1 p (subst (λ (ys : List ℕ). has p ys ≡ true) (sym (append_assoc before (x ∷ []) xs)) e) w where
      closed_more : IsClosed graph (before ++ x ∷ [])
      closed_more p q e leads = elim (or_cases (has p before) (x == p) (sym (has_snoc p x before) ∙ e)) [
        | inl old ↦ has_before q x before (closed p q old leads)
        | inr is ↦ has_before q x before (laid.0 q (subst (λ (y : ℕ). has q (edges graph y) ≡ true) (sym (eqb-true x p is)) leads))
      ]

      none_more : (p : ℕ) → has p (before ++ x ∷ []) ≡ true → ReachesOn graph p p → ⊥
      none_more p e w = elim (or_cases (has p before) (x == p) (sym (has_snoc p x before) ∙ e)) [
        | inl old ↦ none p old w
        | inr is ↦
            let back : ReachesOn graph x x = subst (λ (y : ℕ). ReachesOn graph y y) (sym (eqb-true x p is)) w in
            none x (walk_before graph before closed back.first back.others x (laid.0 back.first back.walk.0) back.walk.1) back
      ]

pub ordered_no_cycle : (t : PolicyTables) (graph : List (List ℕ)) (order : List ℕ) → graph ≡ graph_of t → IsOrder graph order → HasNoCycle t
ordered_no_cycle t graph order is h = λ name w.
    let (p, there, back) = itself_over_places t name w in
    let here : ReachesOn graph p p = subst (λ (g : List (List ℕ)). ReachesOn g p p) (sym is) back in
    let (r, e) = last_edge graph p here.first here.others p here.walk in
    let within : p < length graph = subst IsGraph (sym is) (graph-IsGraph t) r p e in
    laid_no_cycle graph [] order (λ x y no. cc) (λ x no. let f : false ≡ true = no in cc) h.laid p (h.all p within) here
