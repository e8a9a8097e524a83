-- The targets that a node hasn't yet, one by one.
use Rattle.std.proofs.Common.{◌≡◌, ◌≢◌, ◌↔◌, ◌<◌, ◌≤◌, ◌+◌, ℕ, Bool, true, false, List, [], ◌∷◌, ◌++◌, Option, Some, length, drop, get_or, set, Contains, IsTrue, refl, sym, ap, ◌∙◌, subst, inl, inr, arith}
use Rattle.std.specs.List.{slice_get}
use Rattle.std.proofs.lemmas.Bool.{cases_Bool, cases_lt}
use Rattle.std.proofs.lemmas.List.{append-nil, get_or_append_left, get_or_past, get_or_push, length_push}
use Rattle.std.proofs.lemmas.List.Elements.{Contains-append_cases, Contains-append_left, Contains-append_right}
use Rattle.std.proofs.lemmas.Option.{get_or_from_slice_get}
use Rattle.inclusion_graph.specs.declared.edge.Edge.{Edge}
use Rattle.inclusion_graph.specs.Edges.{HasEdge, IsFirstTo, fresh, has, sources_of, targets_of}
use Rattle.inclusion_graph.specs.Links.{IsSought}
use Rattle.inclusion_graph.specs.Searches.{HasMarks, IsJoined}
use Rattle.inclusion_graph.proofs.EdgeLemmas.{first_or_rest, targets_are}
use Rattle.inclusion_graph.proofs.LinkLemmas.{sources_are}
use Rattle.inclusion_graph.proofs.ListLemmas.{contained, fresh_held, fresh_new, has_from, held_from, in_one, marks_more}

-- a source that is sought, from edge to edge
pub sought_start : (edges : List Edge) (from to : ℕ) (next : Option ℕ) → IsFirstTo edges to 0 next → IsSought edges from to next
sought_start edges from to next h = record {
  start = 0;
  first = h;
  left = (sources_are edges to from).1;
}

pub sought_at : (edges : List Edge) (from to place : ℕ) (d : Edge) → IsSought edges from to (Some place)
    → slice_get edges place ≡ Some (record { from = (get_or edges place d).from; to = to })
sought_at edges from to place d h =
    let is : Edge = record { from = h.first.1.0; to = to } in
    let read : get_or edges place d ≡ is = get_or_from_slice_get edges place is d h.first.1.1.0 in
    subst (λ m. slice_get edges place ≡ Some (record { from = m; to = to })) (sym (ap (λ (e : Edge). e.from) read)) h.first.1.1.0

pub sought_found : (edges : List Edge) (from to place : ℕ) (d : Edge) → IsSought edges from to (Some place)
    → (get_or edges place d).from ≡ from → HasEdge edges from to
sought_found edges from to place d h e =
    contained edges place (record { from = from; to = to })
    (subst (λ m. slice_get edges place ≡ Some (record { from = m; to = to })) e (sought_at edges from to place d h))

pub sought_more : (edges : List Edge) (from to place : ℕ) (d : Edge) (next : Option ℕ) → IsSought edges from to (Some place)
    → (get_or edges place d).from ≢ from
    → ((edge : Edge) → slice_get edges place ≡ Some edge → IsFirstTo edges edge.to (place + 1) next) → IsSought edges from to next
sought_more edges from to place d next h other goes =
    let source = h.first.1.0 in
    let is : Edge = record { from = source; to = to } in
    let read : get_or edges place d ≡ is = get_or_from_slice_get edges place is d h.first.1.1.0 in
    let rest = sources_of (drop (place + 1) edges) to in
    record {
      start = place + 1;
      first = goes is h.first.1.1.0;
      left = λ edge.
          let held = subst (λ ss. Contains ss from) h.first.1.1.1 (h.left edge) in
          elim (first_or_rest source from rest held.0 held.1 held.2) [
            | inl here ↦ absurd (other (ap (λ (e : Edge). e.from) read ∙ here))
            | inr later ↦ later
          ];
    }

-- a target more
fresh_among : (all : List ℕ) (n m : ℕ) → Contains (fresh all (n ∷ [])) m → Contains (n ∷ []) m
fresh_among all n m held =
    elim (cases_Bool (has all n)) [
      | inl yes_ ↦ let none = subst (λ xs. Contains xs m) (fresh_held all [] n yes_) held in absurd (omega (arith, none.1))
      | inr no_ ↦ subst (λ xs. Contains xs m) (fresh_new all [] n no_) held
    ]

pub fresh_few : (all : List ℕ) (n : ℕ) → length (fresh all (n ∷ [])) ≤ 1
fresh_few all n =
    elim (cases_Bool (has all n)) [
      | inl yes_ ↦ rw (fresh_held all [] n yes_) (omega arith)
      | inr no_ ↦ rw (fresh_new all [] n no_) (omega arith)
    ]

fresh_there : (all : List ℕ) (n : ℕ) → Contains (all ++ fresh all (n ∷ [])) n
fresh_there all n =
    elim (cases_Bool (has all n)) [
      | inl yes_ ↦ Contains-append_left all (fresh all (n ∷ [])) n (held_from all n yes_)
      | inr no_ ↦ Contains-append_right all (fresh all (n ∷ [])) n
          (subst (λ xs. Contains xs n) (sym (fresh_new all [] n no_)) (0, omega arith, refl))
    ]

pub item_new : (all : List ℕ) (n : ℕ) → (¬ Contains all n) → all ++ n ∷ [] ≡ all ++ fresh all (n ∷ [])
item_new all n none =
    elim (cases_Bool (has all n)) [
      | inl yes_ ↦ absurd (none (held_from all n yes_))
      | inr no_ ↦ ap (λ xs. all ++ xs) (sym (fresh_new all [] n no_))
    ]

pub item_held : (all : List ℕ) (n : ℕ) (is_new : Bool) → is_new ≡ false → (IsTrue is_new ↔ (¬ Contains all n))
    → all ≡ all ++ fresh all (n ∷ [])
item_held all n is_new e says =
    elim (cases_Bool (has all n)) [
      | inl yes_ ↦ sym (ap (λ xs. all ++ xs) (fresh_held all [] n yes_) ∙ append-nil all)
      | inr no_ ↦
          let new : is_new ≡ true = says.1 (λ held. let no : true ≡ false = sym (has_from all n held) ∙ no_ in cc) in
          let no : true ≡ false = sym new ∙ e in cc
    ]

pub joined_start : (edges : List Edge) (from below : ℕ) (marks : List Bool) (all : List ℕ) → all ≡ targets_of edges from
    → HasMarks marks below [] → IsJoined edges from below [] marks all
joined_start edges from below marks all is none = record {
  says = none;
  there = λ n. (
    λ held. inl ((targets_are edges from n).0 (subst (λ xs. Contains xs n) is held)),
    λ either. elim either [
      | inl edge ↦ subst (λ xs. Contains xs n) (sym is) ((targets_are edges from n).1 edge)
      | inr named ↦ absurd (omega (arith, named.1))
    ],
  );
}

pub joined_more : (edges : List Edge) (from below : ℕ) (named : List ℕ) (marks : List Bool) (all : List ℕ) (n : ℕ) → n < below
    → IsJoined edges from below named marks all
    → IsJoined edges from below (named ++ n ∷ []) (set marks n true) (all ++ fresh all (n ∷ []))
joined_more edges from below named marks all n low h =
    let more = fresh all (n ∷ []) in
    record {
      says = marks_more marks below named n low h.says;
      there = λ m. (
        λ held. elim (Contains-append_cases all more m held) [
          | inl old ↦ elim ((h.there m).0 old) [
            | inl edge ↦ inl edge
            | inr before ↦ inr (Contains-append_left named (n ∷ []) m before)
          ]
          | inr new ↦ inr (Contains-append_right named (n ∷ []) m (fresh_among all n m new))
        ],
        λ either. elim either [
          | inl edge ↦ Contains-append_left all more m ((h.there m).1 (inl edge))
          | inr is ↦ elim (Contains-append_cases named (n ∷ []) m is) [
            | inl before ↦ Contains-append_left all more m ((h.there m).1 (inr before))
            | inr here ↦ subst (Contains (all ++ more)) (in_one n m here) (fresh_there all n)
          ]
        ],
      );
    }

pub joined_marked : (edges : List Edge) (from below : ℕ) (named : List ℕ) (marks : List Bool) (all : List ℕ) (n : ℕ) → n < below
    → IsJoined edges from below named marks all → get_or marks n false ≡ true → Contains all n
joined_marked edges from below named marks all n low h e = (h.there n).1 (inr (held_from named n (sym (h.says.1 n low) ∙ e)))

pub joined_unmarked : (edges : List Edge) (from below : ℕ) (named : List ℕ) (marks : List Bool) (all : List ℕ) (n : ℕ) → n < below
    → IsJoined edges from below named marks all → get_or marks n false ≡ false → Contains all n ↔ HasEdge edges from n
joined_unmarked edges from below named marks all n low h e = (
  λ held. elim ((h.there n).0 held) [
    | inl edge ↦ edge
    | inr is ↦ let no : true ≡ false = sym (has_from named n is) ∙ sym (h.says.1 n low) ∙ e in cc
  ],
  λ edge. (h.there n).1 (inl edge),
)

-- marks of which each is one of some nodes, and none
pub marks_left : (marks : List Bool) (nodes : List ℕ) → HasMarks marks (length marks) nodes → (n : ℕ) → get_or marks n false ≡ true → Contains nodes n
marks_left marks nodes h n e =
    elim (cases_lt n (length marks)) [
      | inl within ↦ held_from nodes n (sym (h.1 n within) ∙ e)
      | inr past ↦ let no : true ≡ false = sym e ∙ get_or_past marks n false (omega arith) in cc
    ]

pub marks_node : (marks : List Bool) (below : ℕ) → HasMarks marks below [] → HasMarks (marks ++ false ∷ []) (below + 1) []
marks_node marks below h = (
  omega (arith, length_push marks false, h.0),
  λ n within. elim (cases_lt n below) [
    | inl old ↦ get_or_append_left marks (false ∷ []) false n (omega (arith, h.0)) ∙ h.1 n old
    | inr past ↦ get_or_push marks false false n (omega (arith, h.0))
  ],
)
