-- Sets of nodes by marks and a list.
use Rattle.std.proofs.Common.{◌≡◌, ◌⊎◌, ◌↔◌, ◌<◌, ◌+◌, ℕ, zero, suc, nat_eq, Bool, true, false, List, [], ◌∷◌, ◌++◌, length, get_or, set, Contains, refl, sym, ap, ◌∙◌, subst, inl, inr, arith}
use Rattle.std.specs.List.{All, IsDistinct}
use Rattle.std.specs.List.Sorted.{IsPermutation}
use Rattle.std.proofs.lemmas.Bool.{cases_Bool, cases_lt}
use Rattle.std.proofs.lemmas.Cmp.{nat_eq_equiv}
use Rattle.std.proofs.lemmas.List.{append-nil, get_or_append_left, get_or_push, length-set, length_push}
use Rattle.std.proofs.lemmas.List.Elements.{All-contains, All-nil, All-push, All-weaker, Contains-append_cases, Contains-append_left, Contains-push}
use Rattle.std.proofs.lemmas.List.Sorted.{All-permutation, length_permutation, list_any-IsPermutation}
use Rattle.std.proofs.lemmas.Map.Keys.{IsDistinct-IsPermutation, IsDistinct-push}
use Rattle.inclusion_graph.specs.Edges.{fresh, has}
use Rattle.inclusion_graph.specs.Searches.{HasMarks}
use Rattle.inclusion_graph.proofs.ListLemmas.{fresh_held, fresh_new, has_from, held_from, in_one, marks_more}
use Rattle.finaliser.specs.Holding.{IsNodeSet}
use Rattle.finaliser.specs.Marks.{Marks, unmarked}
use Rattle.finaliser.proofs.MarkLemmas.{marked_within}

unmarked_add : (marks : List Bool) (n : ℕ) → n < length marks → get_or marks n false ≡ false → unmarked (set marks n true) + 1 ≡ unmarked marks
unmarked_add [] n within e = absurd (omega arith)
unmarked_add (true ∷ marks) zero within e = let no : true ≡ false = e in cc
unmarked_add (false ∷ marks) zero within e = omega arith
unmarked_add (true ∷ marks) (suc n) within e = unmarked_add marks n (omega arith) e
unmarked_add (false ∷ marks) (suc n) within e = let less = unmarked_add marks n (omega arith) e in omega arith

unmarked_push : (marks : List Bool) → unmarked (marks ++ false ∷ []) ≡ unmarked marks + 1
unmarked_push [] = refl
unmarked_push (true ∷ marks) = unmarked_push marks
unmarked_push (false ∷ marks) = let more = unmarked_push marks in omega arith

unmarked_all : (marks : List Bool) → ((n : ℕ) → n < length marks → get_or marks n false ≡ false) → unmarked marks ≡ length marks
unmarked_all [] h = refl
unmarked_all (true ∷ marks) h = let no : true ≡ false = h 0 (omega arith) in cc
unmarked_all (false ∷ marks) h = ap suc (unmarked_all marks (λ n within. h (suc n) (omega arith)))

not_has : (nodes : List ℕ) (n : ℕ) → All (λ k. k < n) nodes → has nodes n ≡ false
not_has nodes n low = elim (cases_Bool (has nodes n)) [
  | inl yes_ ↦ let lt : n < n = All-contains (λ k. k < n) nodes n low (held_from nodes n yes_) in absurd (omega arith)
  | inr no_ ↦ no_
]

pub set_empty : (marks : List Bool) (nodes : List ℕ) (room : ℕ) → marks ≡ [] → nodes ≡ [] → IsNodeSet marks nodes room
unfolding IsDistinct
set_empty marks nodes room e f =
    subst (λ ms. IsNodeSet ms nodes room) (sym e) (subst (λ ns. IsNodeSet [] ns room) (sym f) (record {
      says = (refl, λ n low. absurd (omega arith));
      low = All-nil (λ n. n < 0);
      count = refl;
      distinct = tt;
      room_left = omega arith;
    }))

pub set_node : (marks : List Bool) (nodes : List ℕ) (room : ℕ) → length marks < room → IsNodeSet marks nodes room → IsNodeSet (marks ++ false ∷ []) nodes room
set_node marks nodes room low h = record {
  says = (
    refl,
    λ n within. elim (cases_lt n (length marks)) [
      | inl below ↦ get_or_append_left marks (false ∷ []) false n below ∙ h.says.1 n below
      | inr past ↦
          let at : n ≡ length marks = omega (arith, length_push marks false) in
          get_or_push marks false false n (sym at) ∙ sym (subst (λ k. has nodes k ≡ false) (sym at) (not_has nodes (length marks) h.low))
    ],
  );
  low = All-weaker (λ n. n < length marks) (λ n. n < length (marks ++ false ∷ [])) (λ n lt. omega (arith, length_push marks false)) nodes h.low;
  count = omega (arith, h.count, unmarked_push marks, length_push marks false);
  distinct = h.distinct;
  room_left = omega (arith, length_push marks false);
}

pub set_add : (marks : List Bool) (nodes : List ℕ) (room n : ℕ) → n < length marks → get_or marks n false ≡ false → IsNodeSet marks nodes room
    → IsNodeSet (set marks n true) (nodes ++ n ∷ []) room
set_add marks nodes room n within e h =
    let same = length-set marks n true in
    record {
      says = subst (λ l. HasMarks (set marks n true) l (nodes ++ n ∷ [])) (sym same) (marks_more marks (length marks) nodes n within h.says);
      low = subst (λ l. All (λ k. k < l) (nodes ++ n ∷ [])) (sym same) (All-push (λ k. k < length marks) nodes n h.low within);
      count = omega (arith, h.count, unmarked_add marks n within e, same, length_push nodes n);
      distinct = IsDistinct-push nat_eq_equiv nodes n h.distinct (sym (h.says.1 n within) ∙ e);
      room_left = omega (arith, same, h.room_left);
    }

pub set_room : (marks : List Bool) (nodes : List ℕ) (room n : ℕ) → n < length marks → get_or marks n false ≡ false → IsNodeSet marks nodes room
    → length nodes < room
set_room marks nodes room n within e h = omega (arith, h.count, unmarked_add marks n within e, h.room_left)

pub set_sorted : (marks : List Bool) (old new : List ℕ) (room : ℕ) → IsPermutation old new → IsNodeSet marks old room → IsNodeSet marks new room
set_sorted marks old new room moved h = record {
  says = (refl, λ n within. h.says.1 n within ∙ list_any-IsPermutation (nat_eq n) old new moved);
  low = All-permutation (λ n. n < length marks) old new moved h.low;
  count = omega (arith, h.count, length_permutation old new moved);
  distinct = IsDistinct-IsPermutation nat_eq nat_eq_equiv.symm old new moved h.distinct;
  room_left = h.room_left;
}

pub set_cleared : (old new : List Bool) (nodes : List ℕ) (room : ℕ) → IsNodeSet old nodes room → HasMarks new (length old) [] → IsNodeSet new [] room
unfolding IsDistinct
set_cleared old new nodes room h says = record {
  says = (refl, λ n within. says.1 n (omega (arith, says.0)));
  low = All-nil (λ n. n < length new);
  count = let all = unmarked_all new (λ n within. says.1 n (omega (arith, says.0))) in omega arith;
  distinct = tt;
  room_left = omega (arith, says.0, h.room_left);
}

pub has_says : (marks : List Bool) (nodes : List ℕ) (n : ℕ) (r : Bool) → HasMarks marks (length marks) nodes → n < length marks → r ≡ get_or marks n false
    → (r ≡ true) ↔ Contains nodes n
has_says marks nodes n r says within e = (
  λ yes_. held_from nodes n (sym (says.1 n within) ∙ sym e ∙ yes_),
  λ held. e ∙ says.1 n within ∙ has_from nodes n held,
)

-- the marks are those of the nodes that are still to come
pub left_all : (marks : List Bool) (nodes : List ℕ) → HasMarks marks (length marks) nodes → (n : ℕ) → Marks marks n → Contains nodes n
left_all marks nodes says n e = held_from nodes n (sym (says.1 n (marked_within marks n e)) ∙ e)

-- what a set has that a node was added to
pub added : (nodes : List ℕ) (node n : ℕ) → Contains (nodes ++ fresh nodes (node ∷ [])) n ↔ (Contains nodes n ⊎ (n ≡ node))
added nodes node n =
    elim (cases_Bool (has nodes node)) [
      | inl yes_ ↦
          let same : nodes ++ fresh nodes (node ∷ []) ≡ nodes = ap (λ xs. nodes ++ xs) (fresh_held nodes [] node yes_) ∙ append-nil nodes in (
            λ held. inl (subst (λ xs. Contains xs n) same held),
            λ one. elim one [
              | inl held ↦ subst (λ xs. Contains xs n) (sym same) held
              | inr e ↦ subst (λ xs. Contains xs n) (sym same) (subst (Contains nodes) (sym e) (held_from nodes node yes_))
            ],
          )
      | inr no_ ↦
          let more : nodes ++ fresh nodes (node ∷ []) ≡ nodes ++ node ∷ [] = ap (λ xs. nodes ++ xs) (fresh_new nodes [] node no_) in (
            λ held. elim (Contains-append_cases nodes (node ∷ []) n (subst (λ xs. Contains xs n) more held)) [
              | inl old ↦ inl old
              | inr new ↦ inr (sym (in_one node n new))
            ],
            λ one. subst (λ xs. Contains xs n) (sym more) (elim one [
              | inl held ↦ Contains-append_left nodes (node ∷ []) n held
              | inr e ↦ subst (Contains (nodes ++ node ∷ [])) (sym e) (Contains-push nodes node)
            ]),
          )
    ]
