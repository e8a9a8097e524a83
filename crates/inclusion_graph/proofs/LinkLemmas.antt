-- The sources of nodes, and the links from edge to edge, among more edges and more nodes.
use Rattle.std.proofs.Common.{◌≡◌, ◌≢◌, ◌⊎◌, ◌↔◌, ◌<◌, ◌≤◌, ◌+◌, ℕ, zero, suc, nat_eq, List, [], ◌∷◌, ◌++◌, Option, length, drop, set, Contains, Some, None, MatchOption, refl, sym, ap, ◌∙◌, subst, inl, inr, arith}
use Rattle.std.specs.List.{All, cons_option, slice_get}
use Rattle.std.specs.Option.{ForSome}
use Rattle.std.proofs.lemmas.Bool.{cases_eq, cases_lt, cond-true, cond-false}
use Rattle.std.proofs.lemmas.List.{append-nil, drop-append-le, drop_all, length-set, length_push}
use Rattle.std.proofs.lemmas.List.Elements.{All-head, All-push, All-tail, All-weaker, filter_map-append}
use Rattle.std.proofs.lemmas.Option.{same_Some, slice_get_within}
use Rattle.inclusion_graph.specs.declared.edge.Edge.{Edge}
use Rattle.inclusion_graph.specs.declared.edge_list.Ends.{Ends}
use Rattle.inclusion_graph.specs.Edges.{HasEdge, IsFirstTo, source_to, sources_of}
use Rattle.inclusion_graph.specs.Links.{AreLinked, HasEnds, ends_with}
use Rattle.inclusion_graph.proofs.EdgeLemmas.{eqb_other, eqb_same, first_or_rest, in_rest, same_edge}
use Rattle.inclusion_graph.proofs.ListLemmas.{at_left, at_set_other, at_set_same}

to_node : (edge : Edge) (edges : List Edge) (node : ℕ) → edge.to ≡ node → sources_of (edge ∷ edges) node ≡ edge.from ∷ sources_of edges node
to_node edge edges node e =
    ap (λ o. cons_option o (sources_of edges node)) (cond-true (nat_eq edge.to node) (Some edge.from) None (eqb_same edge.to node e))

to_other : (edge : Edge) (edges : List Edge) (node : ℕ) → edge.to ≢ node → sources_of (edge ∷ edges) node ≡ sources_of edges node
to_other edge edges node e =
    ap (λ o. cons_option o (sources_of edges node)) (cond-false (nat_eq edge.to node) (Some edge.from) None (eqb_other edge.to node e))

edge_from : (edges : List Edge) (node source : ℕ) → Contains (sources_of edges node) source → HasEdge edges source node
edge_from [] node source held = absurd (omega (arith, held.1))
edge_from (x ∷ xs) node source held =
    elim (cases_eq x.to node) [
      | inl same ↦
          let here = subst (λ ss. Contains ss source) (to_node x xs node same) held in
          elim (first_or_rest x.from source (sources_of xs node) here.0 here.1 here.2) [
            | inl at ↦ (zero, omega arith, same_edge x source node at same)
            | inr rest ↦ in_rest x (record { from = source; to = node }) xs (edge_from xs node source rest)
          ]
      | inr no_ ↦ in_rest x (record { from = source; to = node }) xs (edge_from xs node source (subst (λ ss. Contains ss source) (to_other x xs node no_) held))
    ]

source_of : (edges : List Edge) (node source : ℕ) → HasEdge edges source node → Contains (sources_of edges node) source
source_of [] node source held = absurd (omega (arith, held.1))
source_of (x ∷ xs) node source held =
    elim (first_or_rest x (record { from = source; to = node }) xs held.0 held.1 held.2) [
      | inl at ↦ subst (λ ss. Contains ss source) (sym (to_node x xs node (ap (λ (e : Edge). e.to) at)))
          (subst (λ m. Contains (m ∷ sources_of xs node) source) (sym (ap (λ (e : Edge). e.from) at)) (zero, omega arith, refl))
      | inr rest ↦ elim (cases_eq x.to node) [
        | inl same ↦ subst (λ ss. Contains ss source) (sym (to_node x xs node same)) (in_rest x.from source (sources_of xs node) (source_of xs node source rest))
        | inr no_ ↦ subst (λ ss. Contains ss source) (sym (to_other x xs node no_)) (source_of xs node source rest)
      ]
    ]

-- the sources of a node are those that have an edge to it
pub sources_are : (edges : List Edge) (node source : ℕ) → Contains (sources_of edges node) source ↔ HasEdge edges source node
sources_are edges node source = (edge_from edges node source, source_of edges node source)

-- one edge more
pushed : (edges : List Edge) (edge : Edge) (node start : ℕ) → start ≤ length edges
    → sources_of (drop start (edges ++ edge ∷ [])) node ≡ sources_of (drop start edges) node ++ sources_of (edge ∷ []) node
pushed edges edge node start low =
    ap (λ es. sources_of es node) (drop-append-le start edges (edge ∷ []) low) ∙ filter_map-append (source_to node) (drop start edges) (edge ∷ [])

pushed_other : (edges : List Edge) (edge : Edge) (node start : ℕ) → start ≤ length edges → edge.to ≢ node
    → sources_of (drop start (edges ++ edge ∷ [])) node ≡ sources_of (drop start edges) node
pushed_other edges edge node start low away =
    pushed edges edge node start low
    ∙ ap (λ ss. sources_of (drop start edges) node ++ ss) (to_other edge [] node away) ∙ append-nil (sources_of (drop start edges) node)

at_last : {X : Type 0} (xs : List X) (x : X) → slice_get (xs ++ x ∷ []) (length xs) ≡ Some x
at_last [] x = refl
at_last (y ∷ ys) x = at_last ys x

first_stays : (edges : List Edge) (edge : Edge) (node start at : ℕ) → IsFirstTo edges node start (Some at)
    → IsFirstTo (edges ++ edge ∷ []) node start (Some at)
first_stays edges edge node start at h =
    let is : Edge = record { from = h.1.0; to = node } in
    let within = slice_get_within edges at is h.1.1.0 in
    let tail = sources_of (edge ∷ []) node in (
      h.0,
      (
        h.1.0,
        (
          at_left edges (edge ∷ []) at within ∙ h.1.1.0,
          pushed edges edge node start (omega (arith, h.0)) ∙ ap (λ ss. ss ++ tail) h.1.1.1
              ∙ ap (λ ss. h.1.0 ∷ ss) (sym (pushed edges edge node (at + 1) (omega arith))),
        ),
      ),
    )

none_stays : (edges : List Edge) (edge : Edge) (node start : ℕ) → start ≤ length edges → edge.to ≢ node → IsFirstTo edges node start None
    → IsFirstTo (edges ++ edge ∷ []) node start None
none_stays edges edge node start low away h = pushed_other edges edge node start low away ∙ h

past_last : (edges : List Edge) (edge : Edge) (node : ℕ) → sources_of (drop (length edges + 1) (edges ++ edge ∷ [])) node ≡ []
past_last edges edge node =
    ap (λ es. sources_of es node) (drop_all (length edges + 1) (edges ++ edge ∷ []) (omega (arith, length_push edges edge)))

last_begun : (edges : List Edge) (edge : Edge) (start : ℕ) → start ≤ length edges → IsFirstTo edges edge.to start None
    → IsFirstTo (edges ++ edge ∷ []) edge.to start (Some (length edges))
last_begun edges edge start low h = (
  low,
  (
    edge.from,
    (
      at_last edges edge ∙ ap (λ x. Some x) (same_edge edge edge.from edge.to refl refl),
      pushed edges edge edge.to start low ∙ ap (λ ss. ss ++ sources_of (edge ∷ []) edge.to) h ∙ to_node edge [] edge.to refl
          ∙ ap (λ ss. edge.from ∷ ss) (sym (past_last edges edge edge.to)),
    ),
  ),
)

-- where an edge leads to the node, there are sources
not_none : (edges : List Edge) (node start place : ℕ) (edge : Edge) → start ≤ place → slice_get edges place ≡ Some edge → edge.to ≡ node
    → sources_of (drop start edges) node ≡ [] → ⊥
not_none [] node start place edge low at same none = let no : None ≡ Some edge = at in cc
not_none (x ∷ xs) node zero zero edge low at same none =
    let is : x ≡ edge = same_Some x edge at in
    let no : x.from ∷ sources_of xs node ≡ [] = sym (to_node x xs node (ap (λ (e : Edge). e.to) is ∙ same)) ∙ none in cc
not_none (x ∷ xs) node zero (suc place) edge low at same none =
    elim (cases_eq x.to node) [
      | inl here ↦ let no : x.from ∷ sources_of xs node ≡ [] = sym (to_node x xs node here) ∙ none in cc
      | inr away ↦ not_none xs node zero place edge (omega arith) at same (sym (to_other x xs node away) ∙ none)
    ]
not_none (x ∷ xs) node (suc start) zero edge low at same none = absurd (omega arith)
not_none (x ∷ xs) node (suc start) (suc place) edge low at same none = not_none xs node start place edge (omega arith) at same none

no_source : (edges : List Edge) (n : ℕ) → All (λ (e : Edge). e.to < n) edges → sources_of edges n ≡ []
no_source [] n h = refl
no_source (x ∷ xs) n h =
    let low : x.to < n = All-head (λ (e : Edge). e.to < n) x xs h in
    to_other x xs n (λ same. omega (arith, low, same)) ∙ no_source xs n (All-tail (λ (e : Edge). e.to < n) x xs h)

at_push : {X : Type 0} (xs : List X) (x y : X) (i : ℕ) → slice_get (xs ++ x ∷ []) i ≡ Some y → (slice_get xs i ≡ Some y) ⊎ ((i ≡ length xs) × (x ≡ y))
at_push [] x y zero e = inr (refl, same_Some x y e)
at_push [] x y (suc i) e = let no : None ≡ Some y = e in cc
at_push (z ∷ zs) x y zero e = inl e
at_push (z ∷ zs) x y (suc i) e = elim (at_push zs x y i e) [ inl old ↦ inl old | inr new ↦ inr (ap suc new.0, new.1) ]

-- a node more
pub linked_node : (edges : List Edge) (next : List (Option ℕ)) (ends : List (Option Ends)) → AreLinked edges next ends
    → AreLinked edges next (ends ++ None ∷ [])
linked_node edges next ends h = let none : Option Ends = None in record {
  count = h.count;
  within = All-weaker (λ (e : Edge). e.to < length ends) (λ (e : Edge). e.to < length (ends ++ None ∷ [])) (λ e lt. omega (arith, length_push ends none)) edges h.within;
  ends_are = λ node is at. elim (at_push ends None is node at) [
    | inl old ↦ h.ends_are node is old
    | inr new ↦ subst (HasEnds edges node) new.1 (subst (λ n. sources_of edges n ≡ []) (sym new.0) (no_source edges (length ends) h.within))
  ];
  next_are = h.next_are;
}

-- the last edge to the node is among the edges
pub last_within : (edges : List Edge) (next : List (Option ℕ)) (ends : List (Option Ends)) (node : ℕ) (before : Option Ends) → AreLinked edges next ends
    → slice_get ends node ≡ Some before → ForSome before (λ is. is.last < length next)
last_within edges next ends node before h at is e =
    let has = subst (HasEnds edges node) e (h.ends_are node before at) in
    omega (arith, slice_get_within edges is.last (record { from = has.1.0; to = node }) has.1.1.0, h.count)

-- the links after the last edge to the node, if there was one, was linked to the edge at this place
abbrev pub IsExtended : Option Ends → List (Option ℕ) → List (Option ℕ) → ℕ → Type 0
IsExtended before old new place = MatchOption before (new ≡ old) (λ ends. new ≡ set old ends.last (Some place))

ends_pushed : (edges : List Edge) (edge : Edge) (before : Option Ends) → HasEnds edges edge.to before
    → HasEnds (edges ++ edge ∷ []) edge.to (Some (ends_with before (length edges)))
ends_pushed edges edge None h = (last_begun edges edge 0 (omega arith) h, (edge.from, (at_last edges edge ∙ ap (λ x. Some x) (same_edge edge edge.from edge.to refl refl), past_last edges edge edge.to)))
ends_pushed edges edge (Some ends) h = (first_stays edges edge edge.to 0 ends.first h.0, (edge.from, (at_last edges edge ∙ ap (λ x. Some x) (same_edge edge edge.from edge.to refl refl), past_last edges edge edge.to)))

ends_stay : (edges : List Edge) (edge : Edge) (node : ℕ) (is : Option Ends) → edge.to ≢ node → HasEnds edges node is → HasEnds (edges ++ edge ∷ []) node is
ends_stay edges edge node None away h = none_stays edges edge node 0 (omega arith) away h
ends_stay edges edge node (Some ends) away h =
    let last : Edge = record { from = h.1.0; to = node } in
    let within = slice_get_within edges ends.last last h.1.1.0 in (
      first_stays edges edge node 0 ends.first h.0,
      (
        h.1.0,
        (
          at_left edges (edge ∷ []) ends.last within ∙ h.1.1.0,
          pushed_other edges edge node (ends.last + 1) (omega arith) away ∙ h.1.1.1,
        ),
      ),
    )

-- an old edge's link, which stays
old_link : (edges : List Edge) (edge at : Edge) (place : ℕ) (is : Option ℕ) → place < length edges
    → (is ≡ None → at.to ≡ edge.to → sources_of (drop (place + 1) edges) edge.to ≡ [] → ⊥)
    → IsFirstTo edges at.to (place + 1) is → IsFirstTo (edges ++ edge ∷ []) at.to (place + 1) is
old_link edges edge at place (Some next) within none h = first_stays edges edge at.to (place + 1) next h
old_link edges edge at place None within none h =
    none_stays edges edge at.to (place + 1) (omega arith)
    (λ same. none refl (sym same) (subst (λ n. sources_of (drop (place + 1) edges) n ≡ []) (sym same) h)) h

old_next : (edges : List Edge) (next new : List (Option ℕ)) (ends : List (Option Ends)) (edge : Edge) (before : Option Ends)
    → AreLinked edges next ends → HasEnds edges edge.to before → IsExtended before next new (length edges) → (place : ℕ) (at : Edge) (is : Option ℕ)
    → slice_get edges place ≡ Some at → slice_get new place ≡ Some is → IsFirstTo (edges ++ edge ∷ []) at.to (place + 1) is
old_next edges next new ends edge None h has same place at is here link =
    old_link edges edge at place is (slice_get_within edges place at here)
    (λ none to rest. not_none edges edge.to 0 place at (omega arith) here to has)
    (h.next_are place at is here (subst (λ xs. slice_get xs place ≡ Some is) same link))
old_next edges next new ends edge (Some old) h has same place at is here link =
    let set_link = subst (λ xs. slice_get xs place ≡ Some is) same link in
    let last : Edge = record { from = has.1.0; to = edge.to } in
    let last_at : slice_get edges old.last ≡ Some last = has.1.1.0 in
    let within = slice_get_within edges old.last last last_at in
    elim (cases_eq place old.last) [
      | inl here_last ↦
          let at_is : last ≡ at = same_Some last at (sym last_at ∙ subst (λ p. slice_get edges p ≡ Some at) here_last here) in
          let link_is : Some (length edges) ≡ is =
          same_Some (Some (length edges)) is (sym (at_set_same next old.last (Some (length edges)) (omega (arith, h.count, within))) ∙ subst (λ p. slice_get (set next old.last (Some (length edges))) p ≡ Some is) here_last set_link) in
          subst (λ p. IsFirstTo (edges ++ edge ∷ []) at.to (p + 1) is) (sym here_last)
          (subst (IsFirstTo (edges ++ edge ∷ []) at.to (old.last + 1)) link_is
          (subst (λ n. IsFirstTo (edges ++ edge ∷ []) n (old.last + 1) (Some (length edges))) (ap (λ (e : Edge). e.to) at_is)
          (last_begun edges edge (old.last + 1) (omega arith) has.1.1.1)))
      | inr other ↦
          old_link edges edge at place is (slice_get_within edges place at here)
          (λ none to rest. elim (cases_lt place old.last) [
            | inl before ↦ not_none edges edge.to (place + 1) old.last last (omega arith) last_at refl rest
            | inr behind ↦ not_none edges edge.to (old.last + 1) place at (omega (arith, other)) here to has.1.1.1
          ])
          (h.next_are place at is here (sym (at_set_other next old.last place (Some (length edges)) other) ∙ set_link))
    ]

extended_length : (before : Option Ends) (old new : List (Option ℕ)) (place : ℕ) → IsExtended before old new place → length new ≡ length old
extended_length None old new place e = ap (λ xs. length xs) e
extended_length (Some ends) old new place e = ap (λ xs. length xs) e ∙ length-set old ends.last (Some place)

-- an edge more
pub linked_edge : (edges : List Edge) (next new : List (Option ℕ)) (ends : List (Option Ends)) (edge : Edge) (before : Option Ends)
    → AreLinked edges next ends → edge.to < length ends → slice_get ends edge.to ≡ Some before → IsExtended before next new (length edges)
    → AreLinked (edges ++ edge ∷ []) (new ++ None ∷ []) (set ends edge.to (Some (ends_with before (length edges))))
linked_edge edges next new ends edge before h low here extended =
    let has = h.ends_are edge.to before here in
    let last = Some (ends_with before (length edges)) in
    let count = extended_length before next new (length edges) extended in
    let none : Option ℕ = None in
    let within_all = All-push (λ (e : Edge). e.to < length ends) edges edge h.within low in
    record {
      count = omega (arith, h.count, count, length_push edges edge, length_push new none);
      within = subst (λ n. All (λ (e : Edge). e.to < n) (edges ++ edge ∷ [])) (sym (length-set ends edge.to last)) within_all;
      ends_are = λ node is at. elim (cases_eq node edge.to) [
        | inl same ↦
            let at_is : last ≡ is = same_Some last is (sym (at_set_same ends edge.to last low) ∙ subst (λ n. slice_get (set ends edge.to last) n ≡ Some is) same at) in
            subst (HasEnds (edges ++ edge ∷ []) node) at_is
            (subst (λ n. HasEnds (edges ++ edge ∷ []) n last) (sym same) (ends_pushed edges edge before has))
        | inr other ↦ ends_stay edges edge node is (λ e. other (sym e)) (h.ends_are node is (sym (at_set_other ends edge.to node last other) ∙ at))
      ];
      next_are = λ place at is here_edge link. elim (at_push edges edge at place here_edge) [
        | inl old ↦ elim (at_push new None is place link) [
          | inl link_old ↦ old_next edges next new ends edge before h has extended place at is old link_old
          | inr link_new ↦ absurd (omega (arith, link_new.0, slice_get_within edges place at old, count, h.count))
        ]
        | inr new_edge ↦ elim (at_push new None is place link) [
          | inl link_old ↦ absurd (omega (arith, new_edge.0, slice_get_within new place is link_old, count, h.count))
          | inr link_new ↦ subst (IsFirstTo (edges ++ edge ∷ []) at.to (place + 1)) link_new.1
              (subst (λ p. sources_of (drop (p + 1) (edges ++ edge ∷ [])) at.to ≡ []) (sym new_edge.0) (past_last edges edge at.to))
        ]
      ];
    }
