-- What a retirement can make final, and what it leaves settled.
use Rattle.std.proofs.Common.{◌≡◌, ◌≢◌, ◌⊎◌, ◌↔◌, ◌<◌, ℕ, zero, suc, Bool, true, false, not, IsTrue, List, [], ◌∷◌, ◌++◌, length, set, Contains, Some, None, refl, sym, ap, ◌∙◌, subst, inl, inr, arith}
use Rattle.std.specs.List.{All, filter}
use Rattle.std.specs.List.Sorted.{IsPermutation, IsStrictlyIncreasing}
use Rattle.std.proofs.lemmas.Bool.{cases_Bool, cases_eq}
use Rattle.std.proofs.lemmas.List.Elements.{All-contains, Contains-append_cases, Contains-append_left}
use Rattle.std.proofs.lemmas.List.Kept.{IsStrictlyIncreasing-filter}
use Rattle.std.proofs.lemmas.List.Sorted.{All-permutation, Contains-permutation, IsPermutation-sym}
use Rattle.std.proofs.lemmas.Option.{same_Some, slice_get_within}
use Rattle.names_realms.specs.declared.states.State.{State}
use Rattle.names_realms.specs.declared.states.State.TheVariants.{Active, Finalizing, Finalized}
use Rattle.inclusion_graph.specs.declared.edge.Edge.{Edge}
use Rattle.inclusion_graph.specs.Edges.{HasEdge, has}
use Rattle.inclusion_graph.specs.Walks.{IsWalk, Leads}
use Rattle.inclusion_graph.proofs.ListLemmas.{at_either, at_left, at_set_other, at_set_same, has_from, held_from, in_one}
use Rattle.inclusion_graph.proofs.WalkLemmas.{along, reaches_itself}
use Rattle.finaliser.specs.Holding.{AreFound, AreFreed, AreHeld, AreWithin, Holds, is_free}
use Rattle.finaliser.specs.Settling.{IsIn, IsSettled, ReachesActive, Settles}
use Rattle.finaliser.proofs.LawLemmas.{active_finalized, active_finalizing, cases_held, fewer_active, finalizing_finalized}
use Rattle.finaliser.proofs.CandidateLemmas.{filter_holds}
use Rattle.finaliser.proofs.MarkLemmas.{reaches_back}
use Rattle.finaliser.proofs.SettleLemmas.{not_marked}

state_at : (states : List State) (n : ℕ) → n < length states → (state : State) × IsIn state states n
state_at [] n within = absurd (omega arith)
state_at (s ∷ states) zero within = (s, refl)
state_at (s ∷ states) (suc n) within = state_at states n (omega arith)

one_of : (states : List State) (n : ℕ) (state : State) → IsIn state states n → IsIn Active states n ⊎ (IsIn Finalizing states n ⊎ IsIn Finalized states n)
one_of states n Active e = inl e
one_of states n Finalizing e = inr (inl e)
one_of states n Finalized e = inr (inr e)

-- the state of a node
pub cases_state : (states : List State) (n : ℕ) → n < length states → IsIn Active states n ⊎ (IsIn Finalizing states n ⊎ IsIn Finalized states n)
cases_state states n within = let at = state_at states n within in one_of states n at.0 at.1

-- a node begins, the states are settled but for that, and these are found and held
pub record IsRetiring (edges : List Edge) (old : List State) (node : ℕ) (found held : List ℕ) : Type 0 where
  pub settled : IsSettled edges old
  pub active : IsIn Active old node
  pub within : AreWithin edges (length old)
  pub found_are : AreFound edges (set old node Finalizing) node found
  pub held_are : AreHeld edges (set old node Finalizing) found held

begun_at : (old : List State) (node : ℕ) → IsIn Active old node → IsIn Finalizing (set old node Finalizing) node
begun_at old node e = at_set_same old node Finalizing (slice_get_within old node Active e)

-- a node that has another state than finalizing had it before
before : (old : List State) (node k : ℕ) (state : State) → IsIn Active old node → (state ≡ Finalizing → ⊥) → IsIn state (set old node Finalizing) k
    → (k ≢ node) × IsIn state old k
before old node k state active not e =
    let other : k ≢ node = λ same. not (same_Some state Finalizing (sym (subst (IsIn state (set old node Finalizing)) same e) ∙ begun_at old node active)) in
    (other, sym (at_set_other old node k Finalizing other) ∙ e)

active_before : (old : List State) (node k : ℕ) → IsIn Active old node → IsIn Active (set old node Finalizing) k → (k ≢ node) × IsIn Active old k
active_before old node k active e = before old node k Active active (λ no. cc) e

pub none_of_final : (edges : List Edge) (old : List State) (node k : ℕ) → IsSettled edges old → IsIn Active old node
    → IsIn Finalized (set old node Finalizing) k → ¬ ReachesActive edges (set old node Finalizing) k
none_of_final edges old node k settled active e = λ r.
    settled.done k (before old node k Finalized active (λ no. cc) e).1
    (fewer_active edges (set old node Finalizing) old (λ m is. (active_before old node m active is).1) k r)

-- along a walk to the node that begins
toward : (edges : List Edge) (old : List State) (node : ℕ) (found held : List ℕ) → IsRetiring edges old node found held → (walk : List ℕ) (a : ℕ)
    → Leads edges walk a node → Contains found a ⊎ ReachesActive edges (set old node Finalizing) a
toward edges old node found held h [] a w = absurd w.is_walk
toward edges old node found held h (x ∷ []) a w =
    let same : node ≡ a = sym (same_Some x node w.ends) ∙ same_Some x a w.begins in
    inl (subst (Contains found) same h.found_are.begun)
toward edges old node found held h (x ∷ (y ∷ rest)) a w =
    let states = set old node Finalizing in
    let same : x ≡ a = same_Some x a w.begins in
    let edge : HasEdge edges a y = subst (λ z. HasEdge edges z y) same w.is_walk.0 in
    let low : a < length old = All-contains (λ (e : Edge). e.from < length old) edges (record { from = a; to = y }) h.within.from edge in
    elim (toward edges old node found held h (y ∷ rest) y (record { is_walk = w.is_walk.1; begins = refl; ends = w.ends })) [
      | inl held_y ↦ elim (cases_state old a low) [
        | inl active ↦ elim (cases_eq a node) [
          | inl at ↦ inl (subst (Contains found) (sym at) h.found_are.begun)
          | inr other ↦ inr (a, reaches_itself edges a, at_set_other old node a Finalizing other ∙ active)
        ]
        | inr rest_a ↦
            let other : a ≢ node = λ at. elim rest_a [
              | inl f ↦ active_finalizing old node h.active (subst (IsIn Finalizing old) at f)
              | inr f ↦ active_finalized old node h.active (subst (IsIn Finalized old) at f)
            ] in
            elim rest_a [
              | inl f ↦ h.found_are.closed a y edge held_y (at_set_other old node a Finalizing other ∙ f)
              | inr f ↦ absurd (h.settled.done a f (node, (x ∷ (y ∷ rest), w), h.active))
            ]
      ]
      | inr reaches ↦ inr (reaches_back edges states a y edge reaches)
    ]

-- a finalizing node is found, or it reaches an active one
pub found_or_waits : (edges : List Edge) (old : List State) (node : ℕ) (found held : List ℕ) → IsRetiring edges old node found held → (k : ℕ)
    → IsIn Finalizing (set old node Finalizing) k → Contains found k ⊎ ReachesActive edges (set old node Finalizing) k
found_or_waits edges old node found held h k e =
    elim (cases_eq k node) [
      | inl same ↦ inl (subst (Contains found) (sym same) h.found_are.begun)
      | inr other ↦
          let waits = h.settled.waits k (sym (at_set_other old node k Finalizing other) ∙ e) in
          elim (cases_eq waits.0 node) [
            | inl at ↦ toward edges old node found held h waits.1.0 k (subst (Leads edges waits.1.0 k) at waits.1.1)
            | inr away ↦ inr (waits.0, waits.1, at_set_other old node waits.0 Finalizing away ∙ waits.2)
          ]
    ]

pub through : (edges : List Edge) (states : List State) (walk : List ℕ) (a b : ℕ) → Leads edges walk a b → ReachesActive edges states b → ReachesActive edges states a
through edges states [] a b w r = absurd w.is_walk
through edges states (x ∷ []) a b w r = subst (ReachesActive edges states) (sym (same_Some x b w.ends) ∙ same_Some x a w.begins) r
through edges states (x ∷ (y ∷ rest)) a b w r =
    reaches_back edges states a y (subst (λ z. HasEdge edges z y) (same_Some x a w.begins) w.is_walk.0)
    (through edges states (y ∷ rest) y b (record { is_walk = w.is_walk.1; begins = refl; ends = w.ends }) r)

-- what is held up reaches an active node
pub held_reaches : (edges : List Edge) (old : List State) (node : ℕ) (found held : List ℕ) → IsRetiring edges old node found held → (k : ℕ)
    → Contains held k → ReachesActive edges (set old node Finalizing) k
held_reaches edges old node found held h k is =
    let states = set old node Finalizing in
    let why = h.held_are.sound k is in
    elim why.1.1 [
      | inl active ↦ (why.0, why.1.0, active)
      | inr waits ↦ elim (found_or_waits edges old node found held h why.0 waits.0) [
        | inl found_it ↦ absurd (waits.1 found_it)
        | inr r ↦ through edges states why.1.0.0 k why.0 why.1.0.1 r
      ]
    ]

Free : List Edge → List State → List ℕ → List ℕ → ℕ → Type 0
Free edges states found held k = (Contains found k × (¬ Contains held k)) ⊎ (¬ ReachesActive edges states k)

free_goes : (edges : List Edge) (old : List State) (node : ℕ) (found held : List ℕ) → IsRetiring edges old node found held → (a b : ℕ)
    → Free edges (set old node Finalizing) found held a → HasEdge edges a b → Free edges (set old node Finalizing) found held b
unfolding Free
free_goes edges old node found held h a b (inr none) e = inr (λ r. none (reaches_back edges (set old node Finalizing) a b e r))
free_goes edges old node found held h a b (inl free) e =
    let states = set old node Finalizing in
    let low : b < length old = All-contains (λ (x : Edge). x.to < length old) edges (record { from = a; to = b }) h.within.to e in
    let held_up = λ (holds : Holds states found b). free.1 (h.held_are.begun a free.0 (b, (e, holds))) in
    let waits = λ (is : IsIn Finalizing states b). elim (cases_held found b) as (λ _. Free edges states found held b) [
      | inl found_b ↦ inl (found_b, λ held_b. elim (h.held_are.closed a b e held_b free.0) [ inl held_a ↦ free.1 held_a | inr never ↦ never ])
      | inr not ↦ absurd (held_up (inr (is, not)))
    ] in
    elim (cases_eq b node) [
      | inl same ↦ waits (subst (IsIn Finalizing states) (sym same) (begun_at old node h.active))
      | inr other ↦ elim (cases_state old b low) [
        | inl active ↦ absurd (held_up (inl (at_set_other old node b Finalizing other ∙ active)))
        | inr rest ↦ elim rest [
          | inl f ↦ waits (at_set_other old node b Finalizing other ∙ f)
          | inr f ↦ inr (none_of_final edges old node b h.settled h.active (at_set_other old node b Finalizing other ∙ f))
        ]
      ]
    ]

free_end : (edges : List Edge) (states : List State) (found held : List ℕ) (k : ℕ) → All (IsIn Finalizing states) found → Free edges states found held k
    → IsIn Active states k → ⊥
unfolding Free
free_end edges states found held k all (inl free) active = active_finalizing states k active (All-contains (IsIn Finalizing states) found k all free.0)
free_end edges states found held k all (inr none) active = none (k, reaches_itself edges k, active)

-- what is found and not held up reaches no active node
pub free_reaches : (edges : List Edge) (old : List State) (node : ℕ) (found held : List ℕ) → IsRetiring edges old node found held → (k : ℕ)
    → Contains found k → (¬ Contains held k) → ¬ ReachesActive edges (set old node Finalizing) k
unfolding Free
free_reaches edges old node found held h k is not = λ r.
    let states = set old node Finalizing in
    let free = along edges (Free edges states found held) (λ a b. free_goes edges old node found held h a b) r.1.0 k r.0 r.1.1 (inl (is, not)) in
    free_end edges states found held r.0 h.found_are.finalizing free r.2

-- the nodes that are found and not held up are those that become final
pub free_are : (edges : List Edge) (old : List State) (node : ℕ) (found held : List ℕ) → IsRetiring edges old node found held → (k : ℕ)
    → (Contains found k × (¬ Contains held k)) ↔ (IsIn Finalizing (set old node Finalizing) k × (¬ ReachesActive edges (set old node Finalizing) k))
free_are edges old node found held h k =
    let states = set old node Finalizing in (
      λ free. (All-contains (IsIn Finalizing states) found k h.found_are.finalizing free.0, free_reaches edges old node found held h k free.0 free.1),
      λ both. elim (found_or_waits edges old node found held h k both.0) [
        | inl is ↦ (is, λ held_k. both.1 (held_reaches edges old node found held h k held_k))
        | inr r ↦ absurd (both.1 r)
      ],
    )

-- a retirement leaves the states settled
pub settled_after : (edges : List Edge) (old : List State) (node : ℕ) (found held : List ℕ) (new : List State) (finals : List ℕ)
    → IsRetiring edges old node found held → Settles edges (set old node Finalizing) new finals → IsSettled edges new
settled_after edges old node found held new finals h settles =
    let states = set old node Finalizing in
    let goes = λ (m : ℕ) (is : IsIn Active states m).
    let not : ¬ Contains finals m = λ final. active_finalizing states m is ((settles.all m).0 final).0 in
    let now : IsIn Active new m = settles.others m not ∙ is in now in
    let came = λ (m : ℕ) (is : IsIn Active new m).
    let not : ¬ Contains finals m = λ final. active_finalized new m is (settles.final m final) in
    let was : IsIn Active states m = sym (settles.others m not) ∙ is in was in
    record {
      waits = λ k is.
          let not : ¬ Contains finals k = λ final. finalizing_finalized new k is (settles.final k final) in
          let was : IsIn Finalizing states k = sym (settles.others k not) ∙ is in
          elim (found_or_waits edges old node found held h k was) [
            | inl found_k ↦ elim (cases_held held k) [
              | inl held_k ↦ fewer_active edges states new goes k (held_reaches edges old node found held h k held_k)
              | inr free ↦ absurd (not ((settles.all k).1 (was, free_reaches edges old node found held h k found_k free)))
            ]
            | inr r ↦ fewer_active edges states new goes k r
          ];
      done = λ k is r.
          let r_before = fewer_active edges new states came k r in
          elim (cases_held finals k) [
            | inl final ↦ ((settles.all k).0 final).1 r_before
            | inr not ↦ none_of_final edges old node k h.settled h.active (sym (settles.others k not) ∙ is) r_before
          ];
    }

-- one active node more
pub settled_node : (edges : List Edge) (states : List State) → AreWithin edges (length states) → IsSettled edges states → IsSettled edges (states ++ Active ∷ [])
settled_node edges states within h =
    let old = λ (k : ℕ) (state : State) (not : Active ≡ state → ⊥) (e : IsIn state (states ++ Active ∷ []) k).
    let was : IsIn state states k = elim (at_either states (Active ∷ []) k state e) [
      | inl before ↦ before
      | inr new ↦ absurd (not (in_one Active state new.1))
    ] in was in
    record {
      waits = λ k is.
          let r = h.waits k (old k Finalizing (λ no. cc) is) in
          (r.0, r.1, at_left states (Active ∷ []) r.0 (slice_get_within states r.0 Active r.2) ∙ r.2);
      done = λ k is r.
          let was = old k Finalized (λ no. cc) is in
          let P : ℕ → Type 0 = λ x. (x < length states) × (¬ ReachesActive edges states x) in
          let last : P r.0 = along edges P
          (λ a b p e. (
            All-contains (λ (x : Edge). x.to < length states) edges (record { from = a; to = b }) within.to e,
            λ r_b. p.1 (reaches_back edges states a b e r_b),
          )) r.1.0 k r.0 r.1.1 (slice_get_within states k Finalized was, h.done k was) in
          last.1 (r.0, reaches_itself edges r.0, sym (at_left states (Active ∷ []) r.0 last.0) ∙ r.2);
    }

pub walk_stays : (edges more : List Edge) (walk : List ℕ) → IsWalk edges walk → IsWalk (edges ++ more) walk
walk_stays edges more [] w = absurd w
walk_stays edges more (x ∷ []) w = tt
walk_stays edges more (x ∷ (y ∷ rest)) w =
    (Contains-append_left edges more (record { from = x; to = y }) w.0, walk_stays edges more (y ∷ rest) w.1)

-- more edges from an active node
pub settled_edges : (edges more : List Edge) (states : List State) (node : ℕ) → IsIn Active states node → All (λ (e : Edge). e.from ≡ node) more
    → IsSettled edges states → IsSettled (edges ++ more) states
settled_edges edges more states node active from h = record {
  waits = λ k is.
      let r = h.waits k is in
      (r.0, (r.1.0, record { is_walk = walk_stays edges more r.1.0 r.1.1.is_walk; begins = r.1.1.begins; ends = r.1.1.ends }), r.2);
  done = λ k is r.
      let P : ℕ → Type 0 = λ x. ¬ ReachesActive edges states x in
      let last : P r.0 = along (edges ++ more) P
      (λ a b p e. elim (Contains-append_cases edges more (record { from = a; to = b }) e) [
        | inl old ↦ λ r_b. p (reaches_back edges states a b old r_b)
        | inr new ↦
            let same : a ≡ node = All-contains (λ (x : Edge). x.from ≡ node) more (record { from = a; to = b }) from new in
            absurd (p (a, reaches_itself edges a, subst (IsIn Active states) (sym same) active))
      ]) r.1.0 k r.0 r.1.1 (h.done k is) in
      last (r.0, reaches_itself edges r.0, r.2);
}

pub settled_none : (edges : List Edge) → IsSettled edges []
settled_none edges = record {
  waits = λ k is. let no : None ≡ Some Finalizing = is in cc;
  done = λ k is r. let no : None ≡ Some Finalized = is in cc;
}

-- the found nodes in another order
pub found_moved : (edges : List Edge) (states : List State) (node : ℕ) (found moved : List ℕ) → IsPermutation found moved
    → AreFound edges states node found → AreFound edges states node moved
found_moved edges states node found moved p h = record {
  begun = Contains-permutation found moved node p h.begun;
  finalizing = All-permutation (IsIn Finalizing states) found moved p h.finalizing;
  closed = λ a b e held is. elim (h.closed a b e (Contains-permutation moved found b (IsPermutation-sym found moved p) held) is) [
    | inl there ↦ inl (Contains-permutation found moved a p there)
    | inr reaches ↦ inr reaches
  ];
}

holds_moved : (states : List State) (found moved : List ℕ) (n : ℕ) → IsPermutation found moved → Holds states found n → Holds states moved n
holds_moved states found moved n p (inl active) = inl active
holds_moved states found moved n p (inr waits) =
    inr (waits.0, λ held. waits.1 (Contains-permutation moved found n (IsPermutation-sym found moved p) held))

pub held_moved : (edges : List Edge) (states : List State) (found moved held : List ℕ) → IsPermutation found moved
    → AreHeld edges states found held → AreHeld edges states moved held
held_moved edges states found moved held p h = let back = IsPermutation-sym found moved p in record {
  begun = λ n held_n up. h.begun n (Contains-permutation moved found n back held_n) (up.0, (up.1.0, holds_moved states moved found up.0 back up.1.1));
  closed = λ a b e held_b is. h.closed a b e held_b (Contains-permutation moved found a back is);
  sound = λ n held_n. let why = h.sound n held_n in (why.0, (why.1.0, holds_moved states found moved why.0 p why.1.1));
}

free_says : (held : List ℕ) (n : ℕ) → (is_free held n ≡ true) ↔ (¬ Contains held n)
free_says held n =
    elim (cases_Bool (has held n)) [
      | inl yes_ ↦ (
        λ e. let no : false ≡ true = ap not (sym yes_) ∙ e in cc,
        λ none. absurd (none (held_from held n yes_)),
      )
      | inr no_ ↦ (
        λ e is. let no : true ≡ false = sym (has_from held n is) ∙ no_ in cc,
        λ none. ap not no_,
      )
    ]

-- the found nodes that aren't held up, ascending, are what settles
pub settles_freed : (edges : List Edge) (old : List State) (node : ℕ) (found held : List ℕ) (new : List State) → IsRetiring edges old node found held
    → IsStrictlyIncreasing found → AreFreed (filter (is_free held) found) (set old node Finalizing) new
    → Settles edges (set old node Finalizing) new (filter (is_free held) found)
settles_freed edges old node found held new h rising freed = record {
  rising = IsStrictlyIncreasing-filter (is_free held) found rising;
  all = λ k. (
    λ is. let both = (filter_holds (is_free held) found k).0 is in (free_are edges old node found held h k).0 (both.0, (free_says held k).0 both.1),
    λ both. let free = (free_are edges old node found held h k).1 both in (filter_holds (is_free held) found k).1 (free.0, (free_says held k).1 free.1),
  );
  final = freed.final;
  others = freed.others;
  count = freed.count;
}

-- whether the node that begins is held up
pub not_held : (edges : List Edge) (old : List State) (node : ℕ) (found held : List ℕ) (waits : Bool) → IsRetiring edges old node found held
    → (waits ≡ true) ↔ Contains held node → IsTrue (not waits) ↔ (¬ ReachesActive edges (set old node Finalizing) node)
not_held edges old node found held waits h says =
    not_marked waits (ReachesActive edges (set old node Finalizing) node)
    (λ e. held_reaches edges old node found held h node (says.0 e))
    (λ r. elim (cases_held held node) [
      | inl is ↦ says.1 is
      | inr free ↦ absurd (free_reaches edges old node found held h node h.found_are.begun free r)
    ])
