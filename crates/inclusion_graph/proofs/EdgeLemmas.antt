-- The targets of nodes, among more edges and more nodes.
use Rattle.std.proofs.Common.{◌≡◌, ◌≢◌, ◌⊎◌, ◌↔◌, ◌<◌, ◌≤◌, ◌+◌, ℕ, zero, suc, true, false, nat_eq, List, [], ◌∷◌, ◌++◌, length, set, get_or, Contains, Some, None, Vec, Global, refl, sym, ap, ◌∙◌, subst, inl, inr, arith}
use Rattle.std.specs.List.{All, cons_option, slice_get}
use Rattle.std.proofs.lemmas.Bool.{cases_Bool, cases_eq, cond-true, cond-false}
use Rattle.std.proofs.lemmas.Bool.Decides.{Decides-eqb}
use Rattle.std.proofs.lemmas.List.{append-nil, length-append, length-set, length_push}
use Rattle.std.proofs.lemmas.List.Elements.{All-append, All-cons, All-head, All-map, All-nil, All-tail, All-weaker, filter_map-append}
use Rattle.std.proofs.lemmas.Option.{same_Some}
use Rattle.inclusion_graph.specs.declared.edge.Edge.{Edge}
use Rattle.inclusion_graph.specs.Edges.{HasEdge, edges_from, target_from, targets_of}
use Rattle.inclusion_graph.specs.Searches.{IsListed}
use Rattle.inclusion_graph.proofs.ListLemmas.{at_either, at_set_other, at_set_same, in_one}

pub eqb_same : (m n : ℕ) → m ≡ n → nat_eq m n ≡ true
eqb_same m n e = (Decides-eqb m n).1 e

pub eqb_other : (m n : ℕ) → m ≢ n → nat_eq m n ≡ false
eqb_other m n other = elim (cases_Bool (nat_eq m n)) [ inl same ↦ absurd (other ((Decides-eqb m n).0 same)) | inr no_ ↦ no_ ]

pub own : (edge : Edge) (edges : List Edge) (node : ℕ) → edge.from ≡ node → targets_of (edge ∷ edges) node ≡ edge.to ∷ targets_of edges node
own edge edges node e =
    ap (λ o. cons_option o (targets_of edges node)) (cond-true (nat_eq edge.from node) (Some edge.to) None (eqb_same edge.from node e))

pub other : (edge : Edge) (edges : List Edge) (node : ℕ) → edge.from ≢ node → targets_of (edge ∷ edges) node ≡ targets_of edges node
other edge edges node e =
    ap (λ o. cons_option o (targets_of edges node)) (cond-false (nat_eq edge.from node) (Some edge.to) None (eqb_other edge.from node e))

pub targets_within : (edges : List Edge) (node n : ℕ) → All (λ (e : Edge). e.to < n) edges → All (λ t. t < n) (targets_of edges node)
targets_within [] node n h = All-nil (λ t. t < n)
targets_within (x ∷ xs) node n h =
    let rest = targets_within xs node n (All-tail (λ (e : Edge). e.to < n) x xs h) in
    elim (cases_eq x.from node) [
      | inl same ↦ subst (All (λ t. t < n)) (sym (own x xs node same)) (All-cons (λ t. t < n) x.to (targets_of xs node) (All-head (λ (e : Edge). e.to < n) x xs h) rest)
      | inr no_ ↦ subst (All (λ t. t < n)) (sym (other x xs node no_)) rest
    ]

pub first_or_rest : {X : Type 0} (x y : X) (xs : List X) (k : ℕ) → k < length (x ∷ xs) → get_or (x ∷ xs) k y ≡ y → (x ≡ y) ⊎ Contains xs y
first_or_rest x y xs zero within e = inl e
first_or_rest x y xs (suc k) within e = inr (k, omega arith, e)

pub in_rest : {X : Type 0} (x y : X) (xs : List X) → Contains xs y → Contains (x ∷ xs) y
in_rest x y xs held = (suc held.0, omega (arith, held.1), held.2)

pub same_edge : (x : Edge) (a b : ℕ) → x.from ≡ a → x.to ≡ b → x ≡ record { from = a; to = b }
same_edge x a b e f =
    let at : ℕ → Edge = λ m. record { from = m; to = x.to } in
    let to : ℕ → Edge = λ m. record { from = a; to = m } in
    ap at e ∙ ap to f

edge_of : (edges : List Edge) (node t : ℕ) → Contains (targets_of edges node) t → HasEdge edges node t
edge_of [] node t held = absurd (omega (arith, held.1))
edge_of (x ∷ xs) node t held =
    elim (cases_eq x.from node) [
      | inl same ↦
          let here = subst (λ ts. Contains ts t) (own x xs node same) held in
          elim (first_or_rest x.to t (targets_of xs node) here.0 here.1 here.2) [
            | inl at ↦ (zero, omega arith, same_edge x node t same at)
            | inr rest ↦ in_rest x (record { from = node; to = t }) xs (edge_of xs node t rest)
          ]
      | inr no_ ↦ in_rest x (record { from = node; to = t }) xs (edge_of xs node t (subst (λ ts. Contains ts t) (other x xs node no_) held))
    ]

target_of : (edges : List Edge) (node t : ℕ) → HasEdge edges node t → Contains (targets_of edges node) t
target_of [] node t held = absurd (omega (arith, held.1))
target_of (x ∷ xs) node t held =
    elim (first_or_rest x (record { from = node; to = t }) xs held.0 held.1 held.2) [
      | inl at ↦ subst (λ ts. Contains ts t) (sym (own x xs node (ap (λ (e : Edge). e.from) at)))
          (subst (λ m. Contains (m ∷ targets_of xs node) t) (sym (ap (λ (e : Edge). e.to) at)) (zero, omega arith, refl))
      | inr rest ↦ elim (cases_eq x.from node) [
        | inl same ↦ subst (λ ts. Contains ts t) (sym (own x xs node same)) (in_rest x.to t (targets_of xs node) (target_of xs node t rest))
        | inr no_ ↦ subst (λ ts. Contains ts t) (sym (other x xs node no_)) (target_of xs node t rest)
      ]
    ]

pub targets_are : (edges : List Edge) (node t : ℕ) → Contains (targets_of edges node) t ↔ HasEdge edges node t
targets_are edges node t = (edge_of edges node t, target_of edges node t)

own_edges : (node : ℕ) (ts : List ℕ) → targets_of (edges_from node ts) node ≡ ts
own_edges node [] = refl
own_edges node (t ∷ ts) =
    own (record { from = node; to = t }) (edges_from node ts) node refl ∙ ap (λ xs. t ∷ xs) (own_edges node ts)

no_edges : (edges : List Edge) (node : ℕ) → All (λ (e : Edge). e.from ≢ node) edges → targets_of edges node ≡ []
no_edges [] node h = refl
no_edges (x ∷ xs) node h =
    other x xs node (All-head (λ (e : Edge). e.from ≢ node) x xs h) ∙ no_edges xs node (All-tail (λ (e : Edge). e.from ≢ node) x xs h)

pub others_edges : (from node : ℕ) (ts : List ℕ) → from ≢ node → targets_of (edges_from from ts) node ≡ []
others_edges from node [] away = refl
others_edges from node (t ∷ ts) away =
    other (record { from = from; to = t }) (edges_from from ts) node away ∙ others_edges from node ts away

pub listed_none : (targets : List (Vec ℕ Global)) → targets ≡ [] → IsListed [] targets
listed_none targets e = record {
  lists = λ node list at. let no : None ≡ Some list = subst (λ ts. slice_get ts node ≡ Some list) e at in cc;
  from = All-nil (λ (edge : Edge). edge.from < length targets);
  to = All-nil (λ (edge : Edge). edge.to < length targets);
  few = omega arith;
  nodes = subst (λ ts. length ts ≤ 4_294_967_295) (sym e) (omega arith);
}

pub listed_node : (edges : List Edge) (targets : List (Vec ℕ Global)) (none : Vec ℕ Global) → IsListed edges targets → none.items ≡ []
    → length targets < 4_294_967_295 → IsListed edges (targets ++ none ∷ [])
listed_node edges targets none h empty room =
    let more = length_push targets none in
    record {
      lists = λ node list at. elim (at_either targets (none ∷ []) node list at) [
        | inl old ↦ h.lists node list old
        | inr new ↦
            ap (λ (v : Vec ℕ Global). v.items) (sym (in_one none list new.1)) ∙ empty
            ∙ sym (no_edges edges node (All-weaker (λ (e : Edge). e.from < length targets) (λ (e : Edge). e.from ≢ node)
            (λ e lt same. absurd (omega (arith, lt, new.0, same))) edges h.from))
      ];
      from = All-weaker (λ (e : Edge). e.from < length targets) (λ (e : Edge). e.from < length (targets ++ none ∷ [])) (λ e lt. omega (arith, more)) edges h.from;
      to = All-weaker (λ (e : Edge). e.to < length targets) (λ (e : Edge). e.to < length (targets ++ none ∷ [])) (λ e lt. omega (arith, more)) edges h.to;
      few = h.few;
      nodes = omega (arith, more);
    }

lists_after : (edges : List Edge) (targets : List (Vec ℕ Global)) (from : ℕ) (new : List ℕ) (all : Vec ℕ Global) → IsListed edges targets
    → from < length targets → all.items ≡ targets_of edges from ++ new → (node : ℕ) (list : Vec ℕ Global)
    → slice_get (set targets from all) node ≡ Some list → (node ≡ from) ⊎ (node ≢ from) → list.items ≡ targets_of edges node ++ targets_of (edges_from from new) node
lists_after edges targets from new all h within is node list at (inl same) =
    let here : slice_get (set targets from all) node ≡ Some all =
    subst (λ n. slice_get (set targets from all) n ≡ Some all) (sym same) (at_set_same targets from all within) in
    let list_is : list ≡ all = same_Some list all (sym at ∙ here) in
    ap (λ (v : Vec ℕ Global). v.items) list_is ∙ is
    ∙ subst (λ n. targets_of edges from ++ new ≡ targets_of edges n ++ targets_of (edges_from from new) n) (sym same)
    (ap (λ xs. targets_of edges from ++ xs) (sym (own_edges from new)))
lists_after edges targets from new all h within is node list at (inr away) =
    h.lists node list (sym (at_set_other targets from node all away) ∙ at)
    ∙ sym (append-nil (targets_of edges node))
    ∙ ap (λ xs. targets_of edges node ++ xs) (sym (others_edges from node new (λ e. away (sym e))))

pub length_edges : (from : ℕ) (ts : List ℕ) → length (edges_from from ts) ≡ length ts
length_edges from [] = refl
length_edges from (t ∷ ts) = ap suc (length_edges from ts)

pub listed_edges : (edges : List Edge) (targets : List (Vec ℕ Global)) (from : ℕ) (new : List ℕ) (all : Vec ℕ Global) → IsListed edges targets
    → from < length targets → all.items ≡ targets_of edges from ++ new → All (λ t. t < length targets) new
    → length edges + length new ≤ 262_144 → IsListed (edges ++ edges_from from new) (set targets from all)
listed_edges edges targets from new all h within is low few =
    let same : length (set targets from all) ≡ length targets = length-set targets from all in
    let fresh = edges_from from new in
    let from_all : All (λ (e : Edge). e.from < length targets) (edges ++ fresh) =
    All-append (λ (e : Edge). e.from < length targets) edges fresh h.from
    (All-map (λ (e : Edge). e.from < length targets) (λ t. record { from = from; to = t }) new (λ k d lt. within)) in
    let to_all : All (λ (e : Edge). e.to < length targets) (edges ++ fresh) =
    All-append (λ (e : Edge). e.to < length targets) edges fresh h.to
    (All-map (λ (e : Edge). e.to < length targets) (λ t. record { from = from; to = t }) new low) in
    let count : length fresh ≡ length new = length_edges from new in
    record {
      lists = λ node list at. lists_after edges targets from new all h within is node list at (cases_eq node from)
          ∙ sym (filter_map-append (target_from node) edges fresh);
      from = subst (λ n. All (λ (e : Edge). e.from < n) (edges ++ fresh)) (sym same) from_all;
      to = subst (λ n. All (λ (e : Edge). e.to < n) (edges ++ fresh)) (sym same) to_all;
      few = omega (arith, length-append edges fresh);
      nodes = omega (arith, same, h.nodes);
    }
