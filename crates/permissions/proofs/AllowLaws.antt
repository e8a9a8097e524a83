-- Whether a caller has a right can be told.
use Rattle.std.proofs.Common.{◌≡◌, ◌⊎◌, ◌<◌, ◌+◌, ℕ, zero, suc, Bool, true, false, ◌||◌, List, [], ◌∷◌, ◌++◌, length, Option, Some, None, inl, inr, refl, sym, ap, ◌∙◌, subst, arith, eq-eqb}
use Rattle.std.specs.Prelude.{◌↔◌, ◌==◌}
use Rattle.std.proofs.lemmas.Bool.{cases_Bool, cases_eq, eqb-true, false≢true, or_cases, or_left, or_right}
use Rattle.std.proofs.lemmas.List.Elements.{Contains-append_cases, Contains-append_left, Contains-append_right}
use Rattle.inclusion_graph.specs.declared.edge.Edge.{Edge}
use Rattle.inclusion_graph.specs.Edges.{HasEdge, edges_from}
use Rattle.inclusion_graph.specs.Walks.{Reaches}
use Rattle.inclusion_graph.proofs.EdgeLemmas.{first_or_rest, in_rest}
use Rattle.inclusion_graph.proofs.WalkLemmas.{along, reaches_itself, reaches_more}
use Rattle.policy_tables.specs.declared.tables.PolicyTables.{PolicyTables}
use Rattle.policy_checks.specs.declared.permission.Permission.{Permission}
use Rattle.policy_checks.specs.Checks.{realm_names}
use Rattle.policy_checks.specs.Index.{place_of}
use Rattle.permissions.specs.Allows.{Allows, root_of}
use Rattle.permissions.specs.Graph.{IsWalkOn, ReachesOn, edges, graph_of, has}
use Rattle.permissions.specs.Grants.{IsBoundByName, IsBoundFrom, bound_at}
use Rattle.permissions.proofs.GraphLemmas.{reaches_at_once, reaches_on}
use Rattle.permissions.proofs.ReachLemmas.{graph-IsGraph, last_edge}
use Rattle.permissions.proofs.RowLemmas.{allowed, bound_over_names, not_bound}
use Rattle.inclusion_graph.proofs.ReachLaws.{reaches_or_not}

-- the edges from the places below one
joined_below : List (List ℕ) → ℕ → List Edge
joined_below graph zero = []
joined_below graph (suc n) = joined_below graph n ++ edges_from n (edges graph n)

joined_from : (n : ℕ) (ts : List ℕ) (a b : ℕ) → HasEdge (edges_from n ts) a b → (n ≡ a) × (has b ts ≡ true)
joined_from n [] a b h = absurd (omega (arith, h.1))
joined_from n (t ∷ ts) a b h =
    let head : Edge = record { from = n; to = t } in
    let it : Edge = record { from = a; to = b } in
    elim (first_or_rest head it (edges_from n ts) h.0 h.1 h.2) [
      | inl here ↦ (ap (λ (e : Edge). e.from) here, or_left (t == b) (has b ts) (eq-eqb t b (ap (λ (e : Edge). e.to) here)))
      | inr rest ↦ let both = joined_from n ts a b rest in (both.0, or_right (t == b) (has b ts) both.1)
    ]

joined_to : (n : ℕ) (ts : List ℕ) (b : ℕ) → has b ts ≡ true → HasEdge (edges_from n ts) n b
joined_to n [] b e = absurd (false≢true e)
joined_to n (t ∷ ts) b e =
    elim (or_cases (t == b) (has b ts) e) [
      | inl here ↦
          subst (λ (k : ℕ). HasEdge (edges_from n (t ∷ ts)) n k) (eqb-true t b here) (zero, omega arith, refl)
      | inr rest ↦
          let head : Edge = record { from = n; to = t } in
          let it : Edge = record { from = n; to = b } in
          in_rest head it (edges_from n ts) (joined_to n ts b rest)
    ]

below_joined : (graph : List (List ℕ)) (n a b : ℕ) → HasEdge (joined_below graph n) a b → has b (edges graph a) ≡ true
unfolding joined_below
below_joined graph zero a b h = absurd (omega (arith, h.1))
below_joined graph (suc n) a b h =
    elim (Contains-append_cases (joined_below graph n) (edges_from n (edges graph n)) (record { from = a; to = b }) h) [
      | inl before ↦ below_joined graph n a b before
      | inr here ↦
          let both = joined_from n (edges graph n) a b here in
          subst (λ (k : ℕ). has b (edges graph k) ≡ true) both.0 both.1
    ]

joined_all : (graph : List (List ℕ)) (n a b : ℕ) → a < n → has b (edges graph a) ≡ true → HasEdge (joined_below graph n) a b
unfolding joined_below
joined_all graph zero a b low e = absurd (omega arith)
joined_all graph (suc n) a b low e =
    elim (cases_eq a n) [
      | inl here ↦ Contains-append_right (joined_below graph n) (edges_from n (edges graph n)) (record { from = a; to = b })
          (subst (λ (k : ℕ). HasEdge (edges_from n (edges graph n)) k b) (sym here)
          (joined_to n (edges graph n) b (subst (λ (k : ℕ). has b (edges graph k) ≡ true) here e)))
      | inr other ↦ Contains-append_left (joined_below graph n) (edges_from n (edges graph n)) (record { from = a; to = b })
          (joined_all graph n a b (omega (arith, other)) e)
    ]

begins_within : (graph : List (List ℕ)) (a b : ℕ) → has b (edges graph a) ≡ true → a < length graph
begins_within [] a b e = absurd (false≢true e)
begins_within (ts ∷ graph) zero b e = omega arith
begins_within (ts ∷ graph) (suc a) b e = omega (arith, begins_within graph a b e)

abbrev joined : List (List ℕ) → List Edge
joined graph = joined_below graph (length graph)

-- a place is reached from itself, or over others
abbrev IsReached : List (List ℕ) → ℕ → ℕ → Type 0
IsReached graph start to = (start ≡ to) ⊎ ReachesOn graph start to

reached_of : (graph : List (List ℕ)) (start to : ℕ) → Reaches (joined graph) start to → IsReached graph start to
reached_of graph start to h =
    along (joined graph) (IsReached graph start)
    (λ x y so edge.
    let leads = below_joined graph (length graph) x y edge in
    inr (elim so [
      | inl here ↦ reaches_at_once graph start y (subst (λ (k : ℕ). has y (edges graph k) ≡ true) (sym here) leads)
      | inr on ↦ reaches_on graph start x y on leads
    ]))
    h.0 start to h.1 (inl refl)

over_walk : (graph : List (List ℕ)) (start x : ℕ) (xs : List ℕ) (to : ℕ) → Reaches (joined graph) start x → IsWalkOn graph x xs to
    → Reaches (joined graph) start to
over_walk graph start x [] to h walk = subst (Reaches (joined graph) start) walk h
over_walk graph start x (y ∷ ys) to h walk =
    over_walk graph start y ys to
    (reaches_more (joined graph) start x y h
    (joined_all graph (length graph) x y (begins_within graph x y walk.0) walk.0)) walk.1

of_reached : (graph : List (List ℕ)) (start to : ℕ) → IsReached graph start to → Reaches (joined graph) start to
of_reached graph start to (inl same) = subst (Reaches (joined graph) start) same (reaches_itself (joined graph) start)
of_reached graph start to (inr on) =
    over_walk graph start start (on.first ∷ on.others) to (reaches_itself (joined graph) start) on.walk

reached_or_not : (graph : List (List ℕ)) (start to : ℕ) → IsReached graph start to ⊎ (IsReached graph start to → ⊥)
reached_or_not graph start to =
    elim (reaches_or_not (joined graph) start to) [
      | inl walk ↦ inl (reached_of graph start to walk)
      | inr none ↦ inr (λ h. none (of_reached graph start to h))
    ]

-- a place below one that is reached, and binds the user
abbrev BindsAt : PolicyTables → ℕ → Permission → ℕ → ℕ → Type 0
BindsAt policy caller p start to = IsReached (graph_of policy) start to × (bound_at policy policy.realms caller p to ≡ true)

binds_or_not : (policy : PolicyTables) (caller : ℕ) (p : Permission) (start to : ℕ)
    → BindsAt policy caller p start to ⊎ (BindsAt policy caller p start to → ⊥)
binds_or_not policy caller p start to =
    elim (cases_Bool (bound_at policy policy.realms caller p to)) [
      | inr free ↦ inr (λ h. false≢true (sym free ∙ h.1))
      | inl bound ↦ elim (reached_or_not (graph_of policy) start to) [
        | inl on ↦ inl (on, bound)
        | inr none ↦ inr (λ h. none h.0)
      ]
    ]

below_or_none : (policy : PolicyTables) (caller : ℕ) (p : Permission) (start n : ℕ)
    → ((to : ℕ) × BindsAt policy caller p start to) ⊎ ((to : ℕ) → to < n → BindsAt policy caller p start to → ⊥)
below_or_none policy caller p start zero = inr (λ to low h. absurd (omega arith))
below_or_none policy caller p start (suc n) =
    elim (below_or_none policy caller p start n) [
      | inl found ↦ inl found
      | inr none ↦ elim (binds_or_not policy caller p start n) [
        | inl here ↦ inl (n, here)
        | inr not ↦ inr (λ to low h. elim (cases_eq to n) [
          | inl same ↦ not (subst (BindsAt policy caller p start) same h)
          | inr other ↦ none to (omega arith) h
        ])
      ]
    ]

-- what is reached is the place itself, or one of the graph
within : (policy : PolicyTables) (start to : ℕ) → IsReached (graph_of policy) start to → to < suc (start + length (graph_of policy))
within policy start to (inl same) = omega (arith, same)
within policy start to (inr on) =
    let last = last_edge (graph_of policy) start on.first on.others to on.walk in
    omega (arith, graph-IsGraph policy last.0 to last.1)

-- A truth value that says whether this is so.
abbrev IsTold : Type 0 → Type 0
IsTold P = (b : Bool) × ((b ≡ true) ↔ P)

told_yes : (P : Type 0) → P → IsTold P
told_yes P h = (true, (λ e. h, λ is. refl))

told_no : (P : Type 0) → (P → ⊥) → IsTold P
told_no P h = (false, (λ e. absurd (false≢true e), λ is. absurd (h is)))

from_told : (policy : PolicyTables) (caller : ℕ) (p : Permission) (start : ℕ) → IsTold (IsBoundFrom policy start caller p)
from_told policy caller p start =
    elim (below_or_none policy caller p start (suc (start + length (graph_of policy)))) [
      | inl found ↦ told_yes (IsBoundFrom policy start caller p)
          (record { to = found.0; reached = found.1.0; bound = found.1.1 })
      | inr none ↦ told_no (IsBoundFrom policy start caller p)
          (λ h. none h.to (within policy start h.to h.reached) (h.reached, h.bound))
    ]

by_place : (policy : PolicyTables) (caller : ℕ) (p : Permission) (name : List ℕ) (o : Option ℕ) → place_of name (realm_names policy) ≡ o
    → IsTold (IsBoundByName policy name caller p)
by_place policy caller p name None e = (false, not_bound policy caller p name (sym e))
by_place policy caller p name (Some place) e =
    let told = from_told policy caller p place in
    (told.0, bound_over_names policy caller p name place told.0 e told.1)

by_name : (policy : PolicyTables) (caller : ℕ) (p : Permission) (name : List ℕ) → IsTold (IsBoundByName policy name caller p)
by_name policy caller p name = by_place policy caller p name (place_of name (realm_names policy)) refl

pub allows_or_not : (policy : PolicyTables) (caller : ℕ) (p : Permission) (realm : List ℕ)
    → Allows policy caller p realm ⊎ (Allows policy caller p realm → ⊥)
allows_or_not policy caller p realm =
    let own = by_name policy caller p realm in
    let root = by_name policy caller p (root_of realm) in
    let told = allowed policy caller p realm own.0 root.0 own.1 root.1 in
    elim (cases_Bool (own.0 || root.0)) [
      | inl is ↦ inl (told.0 is)
      | inr not ↦ inr (λ h. false≢true (sym not ∙ told.1 h))
    ]
