-- Nodes that are retired in turn, beside all of them at once.
use Rattle.std.proofs.Common.{◌≡◌, ◌≢◌, ◌⊎◌, ◌↔◌, ◌<◌, ◌≤◌, ◌+◌, ℕ, zero, suc, Bool, true, false, ◌||◌, cond, List, [], ◌∷◌, ◌++◌, length, get_or, set, Contains, Some, None, refl, sym, ap, ◌∙◌, subst, inl, inr, arith}
use Rattle.std.specs.List.{All, slice_get}
use Rattle.std.specs.List.Sorted.{IsStrictlyIncreasing, IsStrictlySortedBy}
use Rattle.std.specs.Ordering.{nat_cmp}
use Rattle.std.proofs.lemmas.Bool.{cases_Bool, cases_eq, cases_lt, cond-true, cond-false}
use Rattle.std.proofs.lemmas.List.{get_or_append_left, get_or_push, length-set, length_push}
use Rattle.std.proofs.lemmas.List.Elements.{All-contains, All-nil, All-push, All-weaker, Contains-append_cases, Contains-append_left, Contains-append_right, Contains-push}
use Rattle.std.proofs.lemmas.Map.Keys.{below_from_sorted, sorted_from_strictly_increasing, sorted_tail}
use Rattle.std.proofs.lemmas.Option.{same_Some, slice_get_within}
use Rattle.names_realms.specs.declared.states.State.{State}
use Rattle.names_realms.specs.declared.states.State.TheVariants.{Active, Finalizing, Finalized}
use Rattle.inclusion_graph.specs.declared.edge.Edge.{Edge}
use Rattle.inclusion_graph.specs.Edges.{has}
use Rattle.inclusion_graph.proofs.ListLemmas.{at_set_other, at_set_same, has_from, held_from, in_one}
use Rattle.finaliser.specs.Settling.{IsIn, IsSettled, ReachesActive, Settles}
use Rattle.finaliser.specs.Laws.{Begins, InTurnIsAtOnce, RetiresInTurn, SettlesInOneWay}

-- a list in which a number stands behind smaller ones
pub rising_push : (xs : List ℕ) (x : ℕ) → IsStrictlyIncreasing xs → All (λ y. y < x) xs → IsStrictlyIncreasing (xs ++ x ∷ [])
rising_push xs x h low = λ k within. elim (cases_lt (k + 1) (length xs)) [
  | inl below ↦ rw (get_or_append_left xs (x ∷ []) 0 k (omega arith), get_or_append_left xs (x ∷ []) 0 (k + 1) below) (h k below)
  | inr last ↦
      let new : get_or (xs ++ x ∷ []) (k + 1) 0 ≡ x = get_or_push xs x 0 (k + 1) (omega (arith, length_push xs x)) in
      let before : get_or xs k 0 < x = low k 0 (omega (arith, length_push xs x)) in
      rw (get_or_append_left xs (x ∷ []) 0 k (omega (arith, length_push xs x)), new) before
]

-- the numbers below this that pass a test, ascending
passing : (ℕ → Bool) → ℕ → List ℕ
passing p zero = []
passing p (suc n) = cond (p n) (passing p n ++ n ∷ []) (passing p n)

record IsPassing (p : ℕ → Bool) (n : ℕ) (xs : List ℕ) : Type 0 where
  pub rising : IsStrictlyIncreasing xs
  pub low : All (λ k. k < n) xs
  pub passes : (k : ℕ) → Contains xs k → p k ≡ true
  pub all : (k : ℕ) → k < n → p k ≡ true → Contains xs k

passing_more : (p : ℕ → Bool) (n : ℕ) (xs : List ℕ) → IsPassing p n xs → p n ≡ true → IsPassing p (suc n) (xs ++ n ∷ [])
passing_more p n xs h e = record {
  rising = rising_push xs n h.rising h.low;
  low = All-push (λ k. k < suc n) xs n (All-weaker (λ k. k < n) (λ k. k < suc n) (λ k lt. omega arith) xs h.low) (omega arith);
  passes = λ k held. elim (Contains-append_cases xs (n ∷ []) k held) [
    | inl old ↦ h.passes k old
    | inr new ↦ subst (λ m. p m ≡ true) (in_one n k new) e
  ];
  all = λ k low is. elim (cases_eq k n) [
    | inl same ↦ subst (Contains (xs ++ n ∷ [])) (sym same) (Contains-push xs n)
    | inr other ↦ Contains-append_left xs (n ∷ []) k (h.all k (omega (arith, other)) is)
  ];
}

passing_same : (p : ℕ → Bool) (n : ℕ) (xs : List ℕ) → IsPassing p n xs → p n ≡ false → IsPassing p (suc n) xs
passing_same p n xs h e = record {
  rising = h.rising;
  low = All-weaker (λ k. k < n) (λ k. k < suc n) (λ k lt. omega arith) xs h.low;
  passes = h.passes;
  all = λ k low is. elim (cases_eq k n) [
    | inl same ↦ let no : false ≡ true = sym e ∙ ap p (sym same) ∙ is in cc
    | inr other ↦ h.all k (omega (arith, other)) is
  ];
}

passing_is : (p : ℕ → Bool) (n : ℕ) → IsPassing p n (passing p n)
unfolding passing
passing_is p zero = record {
  rising = λ k within. absurd (omega arith);
  low = All-nil (λ k. k < 0);
  passes = λ k held. absurd (omega (arith, held.1));
  all = λ k low is. absurd (omega arith);
}
passing_is p (suc n) =
    elim (cases_Bool (p n)) [
      | inl yes_ ↦ subst (IsPassing p (suc n)) (sym (cond-true (p n) (passing p n ++ n ∷ []) (passing p n) yes_)) (passing_more p n (passing p n) (passing_is p n) yes_)
      | inr no_ ↦ subst (IsPassing p (suc n)) (sym (cond-false (p n) (passing p n ++ n ∷ []) (passing p n) no_)) (passing_same p n (passing p n) (passing_is p n) no_)
    ]

-- the numbers below this that either list has, ascending
either : List ℕ → List ℕ → ℕ → Bool
either xs ys n = has xs n || has ys n

or_left : (a b : Bool) → a ≡ true → (a || b) ≡ true
or_left true b e = refl
or_left false b e = let no : false ≡ true = e in cc

or_right : (a b : Bool) → b ≡ true → (a || b) ≡ true
or_right true b e = refl
or_right false b e = e

or_cases : (a b : Bool) → (a || b) ≡ true → (a ≡ true) ⊎ (b ≡ true)
or_cases true b e = inl refl
or_cases false b e = inr e

record IsJoined (xs ys zs : List ℕ) : Type 0 where
  pub rising : IsStrictlyIncreasing zs
  pub all : (k : ℕ) → Contains zs k ↔ (Contains xs k ⊎ Contains ys k)

joined : (n : ℕ) (xs ys : List ℕ) → ((k : ℕ) → Contains xs k → k < n) → ((k : ℕ) → Contains ys k → k < n) → (zs : List ℕ) × IsJoined xs ys zs
unfolding either
joined n xs ys low_xs low_ys =
    let h = passing_is (either xs ys) n in (
      passing (either xs ys) n,
      record {
        rising = h.rising;
        all = λ k. (
          λ held. elim (or_cases (has xs k) (has ys k) (h.passes k held)) [
            | inl a ↦ inl (held_from xs k a)
            | inr b ↦ inr (held_from ys k b)
          ],
          λ one. elim one [
            | inl a ↦ h.all k (low_xs k a) (or_left (has xs k) (has ys k) (has_from xs k a))
            | inr b ↦ h.all k (low_ys k b) (or_right (has xs k) (has ys k) (has_from ys k b))
          ],
        );
      },
    )

pub cases_held : (xs : List ℕ) (n : ℕ) → Contains xs n ⊎ (¬ Contains xs n)
cases_held xs n = elim (cases_Bool (has xs n)) [
  | inl yes_ ↦ inl (held_from xs n yes_)
  | inr no_ ↦ inr (λ held. let no : true ≡ false = sym (has_from xs n held) ∙ no_ in cc)
]

pub two_states : (states : List State) (n : ℕ) (a b : State) → IsIn a states n → IsIn b states n → a ≡ b
two_states states n a b e f = same_Some a b (sym e ∙ f)

pub active_finalizing : (states : List State) (n : ℕ) → IsIn Active states n → IsIn Finalizing states n → ⊥
active_finalizing states n e f = let no : Active ≡ Finalizing = two_states states n Active Finalizing e f in cc

pub active_finalized : (states : List State) (n : ℕ) → IsIn Active states n → IsIn Finalized states n → ⊥
active_finalized states n e f = let no : Active ≡ Finalized = two_states states n Active Finalized e f in cc

pub finalizing_finalized : (states : List State) (n : ℕ) → IsIn Finalizing states n → IsIn Finalized states n → ⊥
finalizing_finalized states n e f = let no : Finalizing ≡ Finalized = two_states states n Finalizing Finalized e f in cc

-- where fewer nodes are active, fewer reach an active one
pub fewer_active : (edges : List Edge) (some more : List State) → ((n : ℕ) → IsIn Active some n → IsIn Active more n) → (n : ℕ)
    → ReachesActive edges some n → ReachesActive edges more n
fewer_active edges some more h n reaches = (reaches.0, reaches.1, h reaches.0 reaches.2)

-- settled, and then one node more is retired: as if it had been retired with the others
record IsAgain (edges : List Edge) (begun mid : List State) (first : List ℕ) (node : ℕ) (new : List State) (later : List ℕ) : Type 0 where
  pub one : Settles edges begun mid first
  pub two : Settles edges (set mid node Finalizing) new later
  pub within : node < length begun

again_active_begun : (edges : List Edge) (begun mid : List State) (first : List ℕ) (node : ℕ) (new : List State) (later : List ℕ)
    → IsAgain edges begun mid first node new later → (k : ℕ) → IsIn Active (set begun node Finalizing) k
    → (k ≢ node) × IsIn Active begun k × IsIn Active (set mid node Finalizing) k
again_active_begun edges begun mid first node new later h k is =
    let other : k ≢ node = λ same. active_finalizing (set begun node Finalizing) node (subst (IsIn Active (set begun node Finalizing)) same is) (at_set_same begun node Finalizing h.within) in
    let was : IsIn Active begun k = sym (at_set_other begun node k Finalizing other) ∙ is in
    let not : ¬ Contains first k = λ held. active_finalizing begun k was ((h.one.all k).0 held).0 in
    (other, was, at_set_other mid node k Finalizing other ∙ h.one.others k not ∙ was)

again_active_mid : (edges : List Edge) (begun mid : List State) (first : List ℕ) (node : ℕ) (new : List State) (later : List ℕ)
    → IsAgain edges begun mid first node new later → (k : ℕ) → IsIn Active (set mid node Finalizing) k
    → IsIn Active begun k × IsIn Active (set begun node Finalizing) k
again_active_mid edges begun mid first node new later h k is =
    let within : node < length mid = omega (arith, h.one.count, h.within) in
    let other : k ≢ node = λ same. active_finalizing (set mid node Finalizing) node (subst (IsIn Active (set mid node Finalizing)) same is) (at_set_same mid node Finalizing within) in
    let now : IsIn Active mid k = sym (at_set_other mid node k Finalizing other) ∙ is in
    let not : ¬ Contains first k = λ held. active_finalized mid k now (h.one.final k held) in
    let was : IsIn Active begun k = sym (h.one.others k not) ∙ now in
    (was, at_set_other begun node k Finalizing other ∙ was)

-- a node that became final first, beside the states in which the one node is finalizing
again_first : (edges : List Edge) (begun mid : List State) (first : List ℕ) (node : ℕ) (new : List State) (later : List ℕ)
    → IsAgain edges begun mid first node new later → (k : ℕ) → Contains first k
    → IsIn Finalizing (set begun node Finalizing) k × (¬ ReachesActive edges (set begun node Finalizing) k) × IsIn Finalized new k
again_first edges begun mid first node new later h k held =
    let said = (h.one.all k).0 held in
    let none = λ (r : ReachesActive edges (set begun node Finalizing) k).
    said.1 (fewer_active edges (set begun node Finalizing) begun (λ m is. (again_active_begun edges begun mid first node new later h m is).1) k r) in
    let none_mid = λ (r : ReachesActive edges (set mid node Finalizing) k).
    said.1 (fewer_active edges (set mid node Finalizing) begun (λ m is. (again_active_mid edges begun mid first node new later h m is).0) k r) in
    let within : node < length mid = omega (arith, h.one.count, h.within) in
    elim (cases_eq k node) [
      | inl same ↦ (
        subst (IsIn Finalizing (set begun node Finalizing)) (sym same) (at_set_same begun node Finalizing h.within),
        none,
        h.two.final k ((h.two.all k).1 (subst (IsIn Finalizing (set mid node Finalizing)) (sym same) (at_set_same mid node Finalizing within), none_mid)),
      )
      | inr other ↦ (
        at_set_other begun node k Finalizing other ∙ said.0,
        none,
        elim (cases_held later k) [
          | inl yes_ ↦ h.two.final k yes_
          | inr not ↦ h.two.others k not ∙ at_set_other mid node k Finalizing other ∙ h.one.final k held
        ],
      )
    ]

-- a node that isn't among the first stands alike in both
again_alike : (edges : List Edge) (begun mid : List State) (first : List ℕ) (node : ℕ) (new : List State) (later : List ℕ)
    → IsAgain edges begun mid first node new later → (k : ℕ) → (¬ Contains first k)
    → slice_get (set mid node Finalizing) k ≡ slice_get (set begun node Finalizing) k
again_alike edges begun mid first node new later h k not =
    elim (cases_eq k node) [
      | inl same ↦ subst (λ m. slice_get (set mid node Finalizing) m ≡ slice_get (set begun node Finalizing) m) (sym same)
          (at_set_same mid node Finalizing (omega (arith, h.one.count, h.within)) ∙ sym (at_set_same begun node Finalizing h.within))
      | inr other ↦ at_set_other mid node k Finalizing other ∙ h.one.others k not ∙ sym (at_set_other begun node k Finalizing other)
    ]

again_later : (edges : List Edge) (begun mid : List State) (first : List ℕ) (node : ℕ) (new : List State) (later : List ℕ)
    → IsAgain edges begun mid first node new later → (k : ℕ) → Contains later k
    → IsIn Finalizing (set begun node Finalizing) k × (¬ ReachesActive edges (set begun node Finalizing) k)
again_later edges begun mid first node new later h k held =
    let said = (h.two.all k).0 held in
    let none = λ (r : ReachesActive edges (set begun node Finalizing) k).
    said.1 (fewer_active edges (set begun node Finalizing) (set mid node Finalizing) (λ m is. (again_active_begun edges begun mid first node new later h m is).2) k r) in
    elim (cases_held first k) [
      | inl before ↦ let known = again_first edges begun mid first node new later h k before in (known.0, none)
      | inr not ↦ (sym (again_alike edges begun mid first node new later h k not) ∙ said.0, none)
    ]

again_all : (edges : List Edge) (begun mid : List State) (first : List ℕ) (node : ℕ) (new : List State) (later : List ℕ)
    → IsAgain edges begun mid first node new later → (k : ℕ) → IsIn Finalizing (set begun node Finalizing) k
    → (¬ ReachesActive edges (set begun node Finalizing) k) → Contains first k ⊎ Contains later k
again_all edges begun mid first node new later h k is none =
    elim (cases_held first k) [
      | inl before ↦ inl before
      | inr not ↦ inr ((h.two.all k).1 (
        again_alike edges begun mid first node new later h k not ∙ is,
        λ r. none (fewer_active edges (set mid node Finalizing) (set begun node Finalizing) (λ m now. (again_active_mid edges begun mid first node new later h m now).1) k r),
      ))
    ]

-- Two settlings with one more node retired between them are one.
pub settles_again : (edges : List Edge) (begun mid : List State) (first : List ℕ) (node : ℕ) (new : List State) (later : List ℕ)
    → Settles edges begun mid first → Settles edges (set mid node Finalizing) new later → node < length begun
    → (all : List ℕ) × (Settles edges (set begun node Finalizing) new all × ((k : ℕ) → Contains all k ↔ (Contains first k ⊎ Contains later k)))
settles_again edges begun mid first node new later one two within =
    let h : IsAgain edges begun mid first node new later = record { one = one; two = two; within = within } in
    let join = joined (length begun) first later
    (λ k held. slice_get_within begun k Finalizing ((one.all k).0 held).0)
    (λ k held. omega (arith, slice_get_within (set mid node Finalizing) k Finalizing ((two.all k).0 held).0, length-set mid node Finalizing, one.count)) in (
      join.0,
      (
        record {
          rising = join.1.rising;
          all = λ k. (
            λ held. elim ((join.1.all k).0 held) [
              | inl a ↦ let known = again_first edges begun mid first node new later h k a in (known.0, known.1)
              | inr b ↦ again_later edges begun mid first node new later h k b
            ],
            λ both. (join.1.all k).1 (again_all edges begun mid first node new later h k both.0 both.1),
          );
          final = λ k held. elim ((join.1.all k).0 held) [
            | inl a ↦ (again_first edges begun mid first node new later h k a).2
            | inr b ↦ two.final k b
          ];
          others = λ k not.
              two.others k (λ b. not ((join.1.all k).1 (inr b)))
              ∙ again_alike edges begun mid first node new later h k (λ a. not ((join.1.all k).1 (inl a)));
          count = omega (arith, two.count, one.count, length-set mid node Finalizing, length-set begun node Finalizing);
        },
        join.1.all,
      ),
    )

-- lists of which each place has the same are one
same_lists : {X : Type 0} (xs ys : List X) → ((k : ℕ) → slice_get xs k ≡ slice_get ys k) → xs ≡ ys
same_lists [] [] h = refl
same_lists [] (y ∷ ys) h = let no : None ≡ Some y = h 0 in cc
same_lists (x ∷ xs) [] h = let no : Some x ≡ None = h 0 in cc
same_lists (x ∷ xs) (y ∷ ys) h =
    let heads : x ≡ y = same_Some x y (h 0) in
    let tails : xs ≡ ys = same_lists xs ys (λ k. h (suc k)) in cc

none_held : (n : ℕ) → ¬ Contains [] n
none_held n held = omega (arith, held.1)

begins_none : (old begun : List State) → Begins [] old begun → begun ≡ old
begins_none old begun h = same_lists begun old (λ k. h.others k (none_held k))

begins_tail : (node : ℕ) (nodes : List ℕ) (old begun : List State) → Begins (node ∷ nodes) old begun
    → (node < length old) × Begins nodes (set old node Finalizing) begun
begins_tail node nodes old begun h =
    let here : IsIn Finalizing begun node = h.begun node (Contains-append_left (node ∷ []) nodes node (Contains-push [] node)) in
    let within : node < length old = omega (arith, slice_get_within begun node Finalizing here, h.count) in (
      within,
      record {
        begun = λ k held. h.begun k (Contains-append_right (node ∷ []) nodes k held);
        others = λ k not. elim (cases_eq k node) [
          | inl same ↦ subst (λ m. slice_get begun m ≡ slice_get (set old node Finalizing) m) (sym same)
              (here ∙ sym (at_set_same old node Finalizing within))
          | inr other ↦
              let away : ¬ Contains (node ∷ nodes) k = λ held. elim (Contains-append_cases (node ∷ []) nodes k held) [
                | inl first ↦ other (sym (in_one node k first))
                | inr rest ↦ not rest
              ] in
              h.others k away ∙ sym (at_set_other old node k Finalizing other)
        ];
        count = h.count ∙ sym (length-set old node Finalizing);
      },
    )

-- from states that settled into the middle, all the nodes that follow in turn
in_turn : (edges : List Edge) (nodes : List ℕ) (old mid begun new : List State) (first finals : List ℕ) → Settles edges old mid first
    → Begins nodes old begun → RetiresInTurn edges mid nodes new finals
    → (all : List ℕ) × (Settles edges begun new all × ((k : ℕ) → Contains all k ↔ (Contains first k ⊎ Contains finals k)))
in_turn edges [] old mid begun new first finals settled h turns = (
  first,
  (
    subst (λ ss. Settles edges ss new first) (sym (begins_none old begun h)) (subst (λ ss. Settles edges old ss first) (sym turns.0) settled),
    λ k. (
      λ held. inl held,
      λ one. elim one [
        | inl a ↦ a
        | inr b ↦ absurd (none_held k (subst (λ xs. Contains xs k) turns.1 b))
      ],
    ),
  ),
)
in_turn edges (node ∷ nodes) old mid begun new first finals settled h turns =
    let next = turns.0 in
    let now = turns.1.0 in
    let rest = turns.1.1.0 in
    let tail = begins_tail node nodes old begun h in
    let again = settles_again edges old mid first node next now settled turns.1.1.1.0 tail.0 in
    let last = in_turn edges nodes (set old node Finalizing) next begun new again.0 rest again.1.0 tail.1 turns.1.1.1.1 in
    let is : finals ≡ now ++ rest = turns.1.1.1.2 in (
      last.0,
      (
        last.1.0,
        λ k. (
          λ held. elim ((last.1.1 k).0 held) [
            | inl before ↦ elim ((again.1.1 k).0 before) [
              | inl a ↦ inl a
              | inr b ↦ inr (subst (λ xs. Contains xs k) (sym is) (Contains-append_left now rest k b))
            ]
            | inr later ↦ inr (subst (λ xs. Contains xs k) (sym is) (Contains-append_right now rest k later))
          ],
          λ one. elim one [
            | inl a ↦ (last.1.1 k).1 (inl ((again.1.1 k).1 (inl a)))
            | inr b ↦ elim (Contains-append_cases now rest k (subst (λ xs. Contains xs k) is b)) [
              | inl early ↦ (last.1.1 k).1 (inl ((again.1.1 k).1 (inr early)))
              | inr late ↦ (last.1.1 k).1 (inr late)
            ]
          ],
        ),
      ),
    )

settles_itself : (edges : List Edge) (states : List State) → IsSettled edges states → Settles edges states states []
settles_itself edges states h = record {
  rising = λ k within. absurd (omega arith);
  all = λ k. (λ held. absurd (none_held k held), λ both. absurd (both.1 (h.waits k both.0)));
  final = λ k held. absurd (none_held k held);
  others = λ k not. refl;
  count = refl;
}

pub in_turn_is_at_once : InTurnIsAtOnce
in_turn_is_at_once edges old begun new nodes finals settled begins turns =
    let all = in_turn edges nodes old old begun new [] finals (settles_itself edges old settled) begins turns in (
      all.0,
      (
        all.1.0,
        λ k. (
          λ held. elim ((all.1.1 k).0 held) [ inl none ↦ absurd (none_held k none) | inr b ↦ b ],
          λ held. (all.1.1 k).1 (inr held),
        ),
      ),
    )

-- each number is below all later ones
Rises : List ℕ → Type 0
Rises [] = Unit {0}
Rises (x ∷ xs) = All (λ y. x < y) xs × Rises xs

rises_from : (xs : List ℕ) → IsStrictlySortedBy nat_cmp xs → Rises xs
unfolding Rises
rises_from [] h = tt
rises_from (x ∷ xs) h = (
  λ k d low. below_from_sorted (x ∷ xs) 0 (suc k) d h (omega arith) (omega arith),
  rises_from xs (sorted_tail nat_cmp x xs h),
)

head_below : (x y : ℕ) (ys : List ℕ) → All (λ z. y < z) ys → Contains (y ∷ ys) x → y ≤ x
head_below x y ys low held = elim (Contains-append_cases (y ∷ []) ys x held) [
  | inl here ↦ let same : y ≡ x = in_one y x here in omega arith
  | inr rest ↦ let lt : y < x = All-contains (λ z. y < z) ys x low rest in omega arith
]

tail_from : (x y z : ℕ) (ys : List ℕ) → x ≡ y → x < z → Contains (y ∷ ys) z → Contains ys z
tail_from x y z ys same lt held = elim (Contains-append_cases (y ∷ []) ys z held) [
  | inl here ↦ let is : y ≡ z = in_one y z here in absurd (omega arith)
  | inr rest ↦ rest
]

-- ascending lists with the same numbers are one
rising_same : (xs ys : List ℕ) → Rises xs → Rises ys → ((n : ℕ) → Contains xs n ↔ Contains ys n) → xs ≡ ys
unfolding Rises
rising_same [] [] h k same = refl
rising_same [] (y ∷ ys) h k same = absurd (none_held y ((same y).1 (Contains-append_left (y ∷ []) ys y (Contains-push [] y))))
rising_same (x ∷ xs) [] h k same = absurd (none_held x ((same x).0 (Contains-append_left (x ∷ []) xs x (Contains-push [] x))))
rising_same (x ∷ xs) (y ∷ ys) h k same =
    let one = head_below x y ys k.0 ((same x).0 (Contains-append_left (x ∷ []) xs x (Contains-push [] x))) in
    let two = head_below y x xs h.0 ((same y).1 (Contains-append_left (y ∷ []) ys y (Contains-push [] y))) in
    let heads : x ≡ y = omega arith in
    let tails : xs ≡ ys = rising_same xs ys h.1 k.1 (λ n. (
      λ held. tail_from x y n ys heads (All-contains (λ z. x < z) xs n h.0 held) ((same n).0 (Contains-append_right (x ∷ []) xs n held)),
      λ held. tail_from y x n xs (sym heads) (All-contains (λ z. y < z) ys n k.0 held) ((same n).1 (Contains-append_right (y ∷ []) ys n held)),
    )) in cc

pub settles_in_one_way : SettlesInOneWay
settles_in_one_way edges old one other finals others h k =
    let same : (n : ℕ) → Contains finals n ↔ Contains others n = λ n. (λ held. (k.all n).1 ((h.all n).0 held), λ held. (h.all n).1 ((k.all n).0 held)) in (
      same_lists one other (λ n. elim (cases_held finals n) [
        | inl held ↦ h.final n held ∙ sym (k.final n ((same n).0 held))
        | inr not ↦ h.others n not ∙ sym (k.others n (λ held. not ((same n).1 held)))
      ]),
      rising_same finals others (rises_from finals (sorted_from_strictly_increasing finals h.rising)) (rises_from others (sorted_from_strictly_increasing others k.rising)) same,
    )
