-- Sets of nodes that grow along edges.
use Rattle.std.proofs.Common.{◌≡◌, ◌≢◌, ◌⊎◌, ◌↔◌, ◌<◌, ◌≤◌, ◌+◌, ℕ, zero, Bool, true, false, filter, List, [], ◌∷◌, ◌++◌, Option, Some, None, length, get_or, set, take, drop, Contains, refl, sym, ap, ◌∙◌, subst, inl, inr, arith, append_assoc, append-nil}
use Rattle.std.specs.List.{All, slice_get}
use Rattle.std.specs.List.Sorted.{IsStrictlyIncreasing}
use Rattle.std.proofs.lemmas.Bool.{cases_Bool, cases_eq, cases_lt, cond-true, cond-false}
use Rattle.std.proofs.lemmas.List.{length-append, length-set, length-take, length_push, take-append-drop}
use Rattle.std.proofs.lemmas.Map.Keys.{below_from_sorted, sorted_from_strictly_increasing}
use Rattle.std.proofs.lemmas.List.Elements.{All-append, All-contains, All-nil, All-weaker, Contains-append_cases, Contains-append_left, Contains-get_or, Contains-push}
use Rattle.std.proofs.lemmas.Option.{get_or_from_slice_get, same_Some, slice_get_within, slice_get-get_or}
use Rattle.names_realms.specs.declared.states.State.{State}
use Rattle.names_realms.specs.declared.states.State.TheVariants.{Finalizing, Finalized}
use Rattle.inclusion_graph.specs.declared.edge.Edge.{Edge}
use Rattle.inclusion_graph.specs.Edges.{HasEdge, IsFirstTo, sources_of, targets_of}
use Rattle.inclusion_graph.proofs.EdgeLemmas.{first_or_rest, in_rest, targets_are}
use Rattle.inclusion_graph.proofs.LinkLemmas.{sources_are}
use Rattle.inclusion_graph.proofs.ListLemmas.{at_left, at_set_other, at_set_same, contained, in_one, place_held}
use Rattle.inclusion_graph.proofs.WalkLemmas.{leads_cons, leads_one, reaches_itself, reaches_more}
use Rattle.finaliser.specs.Holding.{AreFreed, AreHeld, ArePassed, Comes, Holds, IsClosed, IsClosedBelow, IsGrown, IsHeldUp, IsSource, NodeSetState}
use Rattle.finaliser.specs.Settling.{IsIn}
use Rattle.finaliser.proofs.LawLemmas.{active_finalized, finalizing_finalized}
use Rattle.finaliser.proofs.SettleLemmas.{unfinal_set}

pub grown_none : (P : ℕ → Type 0) (s : NodeSetState) → IsGrown P s s
grown_none P s = record { more = []; is = sym (append-nil s.nodes); all = All-nil P; below = refl; spare = omega arith }

pub grown_more : (P Q : ℕ → Type 0) → ((n : ℕ) → Q n → P n) → (a b c : NodeSetState) → IsGrown P a b → IsGrown Q b c → IsGrown P a c
grown_more P Q weaker a b c h k = record {
  more = h.more ++ k.more;
  is = k.is ∙ ap (λ xs. xs ++ k.more) h.is ∙ append_assoc a.nodes h.more k.more;
  all = All-append P h.more k.more h.all (All-weaker Q P weaker k.more k.all);
  below = k.below ∙ h.below;
  spare = let one = h.spare in let two = k.spare in omega arith;
}

pub grown_weaker : (P Q : ℕ → Type 0) (old new : NodeSetState) → ((n : ℕ) → P n → Q n) → IsGrown P old new → IsGrown Q old new
grown_weaker P Q old new goes h = record {
  more = h.more;
  is = h.is;
  all = All-weaker P Q goes h.more h.all;
  below = h.below;
  spare = h.spare;
}

pub all_if : (P : ℕ → Type 0) (xs : List ℕ) → ((n : ℕ) → Contains xs n → P n) → All P xs
all_if P xs h = λ k d within. h (get_or xs k d) (Contains-get_or xs k d within)

pub grown_stays : (P : ℕ → Type 0) (a b : NodeSetState) → IsGrown P a b → (n : ℕ) → Contains a.nodes n → Contains b.nodes n
grown_stays P a b h n held = subst (λ xs. Contains xs n) (sym h.is) (Contains-append_left a.nodes h.more n held)

pub grown_cases : (P : ℕ → Type 0) (a b : NodeSetState) → IsGrown P a b → (n : ℕ) → Contains b.nodes n → Contains a.nodes n ⊎ P n
grown_cases P a b h n held =
    elim (Contains-append_cases a.nodes h.more n (subst (λ xs. Contains xs n) h.is held)) [
      | inl old ↦ inl old
      | inr new ↦ inr (All-contains P h.more n h.all new)
    ]

pub grown_length : (P : ℕ → Type 0) (a b : NodeSetState) → IsGrown P a b → length a.nodes ≤ length b.nodes
grown_length P a b h = omega (arith, ap (λ (xs : List ℕ). length xs) h.is, length-append a.nodes h.more)

grown_at : (P : ℕ → Type 0) (a b : NodeSetState) → IsGrown P a b → (place x : ℕ) → place < length a.nodes → slice_get b.nodes place ≡ Some x
    → slice_get a.nodes place ≡ Some x
grown_at P a b h place x low e = sym (at_left a.nodes h.more place low) ∙ subst (λ xs. slice_get xs place ≡ Some x) h.is e

-- the edge that stands at a place from which the next one leads to the node
pub passed_at : (edges : List Edge) (P R : ℕ → Type 0) (node : ℕ) (nodes : List ℕ) (place : ℕ) (d : Edge) → ArePassed edges P R node nodes (Some place)
    → (slice_get edges place ≡ Some (record { from = (get_or edges place d).from; to = node })) × HasEdge edges (get_or edges place d).from node
passed_at edges P R node nodes place d h =
    let is : Edge = record { from = h.first.1.0; to = node } in
    let read : get_or edges place d ≡ is = get_or_from_slice_get edges place is d h.first.1.1.0 in
    let at = subst (λ m. slice_get edges place ≡ Some (record { from = m; to = node })) (sym (ap (λ (e : Edge). e.from) read)) h.first.1.1.0 in
    (at, contained edges place (record { from = (get_or edges place d).from; to = node }) at)

stays_or : (Q R : ℕ → Type 0) (old new : NodeSetState) → IsGrown Q old new → (n : ℕ) → Contains old.nodes n ⊎ R n → Contains new.nodes n ⊎ R n
stays_or Q R old new grown n (inl held) = inl (grown_stays Q old new grown n held)
stays_or Q R old new grown n (inr r) = inr r

-- past one edge more
pub passed_more : (edges : List Edge) (P R : ℕ → Type 0) (node : ℕ) (Q : ℕ → Type 0) (old new : NodeSetState) (place : ℕ) (d : Edge) (next : Option ℕ)
    → ArePassed edges P R node old.nodes (Some place) → IsGrown Q old new
    → (P (get_or edges place d).from → Contains new.nodes (get_or edges place d).from ⊎ R (get_or edges place d).from)
    → ((edge : Edge) → slice_get edges place ≡ Some edge → IsFirstTo edges edge.to (place + 1) next)
    → ArePassed edges P R node new.nodes next
passed_more edges P R node Q old new place d next h grown there goes =
    let source = h.first.1.0 in
    let is : Edge = record { from = source; to = node } in
    let read : get_or edges place d ≡ is = get_or_from_slice_get edges place is d h.first.1.1.0 in
    let from : (get_or edges place d).from ≡ source = ap (λ (e : Edge). e.from) read in
    record {
      start = place + 1;
      done = h.done ++ source ∷ [];
      first = goes is h.first.1.1.0;
      sources = h.sources ∙ ap (λ xs. h.done ++ xs) h.first.1.1.1 ∙ sym (append_assoc h.done (source ∷ []) (sources_of (drop (place + 1) edges) node));
      all = λ n held is_p. elim (Contains-append_cases h.done (source ∷ []) n held) [
        | inl before ↦ stays_or Q R old new grown n (h.all n before is_p)
        | inr here ↦
            let same : source ≡ n = in_one source n here in
            let S : ℕ → Type 0 = λ m. Contains new.nodes m ⊎ R m in
            subst S (from ∙ same) (there (subst P (sym (from ∙ same)) is_p))
      ];
    }

-- the same, where nothing is said of the sources that are passed
pub passed_on : (edges : List Edge) (node : ℕ) (nodes more : List ℕ) (place : ℕ) (next : Option ℕ)
    → ArePassed edges (λ n. ⊥) (λ n. ⊥) node nodes (Some place)
    → ((edge : Edge) → slice_get edges place ≡ Some edge → IsFirstTo edges edge.to (place + 1) next)
    → ArePassed edges (λ n. ⊥) (λ n. ⊥) node more next
passed_on edges node nodes more place next h goes = record {
  start = place + 1;
  done = h.done ++ h.first.1.0 ∷ [];
  first = goes (record { from = h.first.1.0; to = node }) h.first.1.1.0;
  sources = h.sources ∙ ap (λ xs. h.done ++ xs) h.first.1.1.1 ∙ sym (append_assoc h.done (h.first.1.0 ∷ []) (sources_of (drop (place + 1) edges) node));
  all = λ n held never. absurd never;
}

pub passed_none : (edges : List Edge) (node : ℕ) (nodes : List ℕ) (next : Option ℕ) → IsFirstTo edges node 0 next
    → ArePassed edges (λ n. ⊥) (λ n. ⊥) node nodes next
passed_none edges node nodes next h = record {
  start = 0;
  done = [];
  first = h;
  sources = refl;
  all = λ n held never. absurd never;
}

pub passed_all : (edges : List Edge) (P R : ℕ → Type 0) (node : ℕ) (nodes : List ℕ) (next : Option ℕ) → next ≡ None
    → ArePassed edges P R node nodes next → (source : ℕ) → HasEdge edges source node → P source → Contains nodes source ⊎ R source
passed_all edges P R node nodes next e h source edge is =
    let none = subst (IsFirstTo edges node h.start) e h.first in
    let all : sources_of edges node ≡ h.done = h.sources ∙ ap (λ xs. h.done ++ xs) none ∙ append-nil h.done in
    h.all source (subst (λ xs. Contains xs source) all ((sources_are edges node source).1 edge)) is

-- what comes to the nodes that a set has by now comes to those that it began with
pub comes_from : (edges : List Edge) (P : ℕ → Type 0) (old new : NodeSetState) → IsGrown (Comes edges P old.nodes) old new → (node source : ℕ)
    → Contains new.nodes node → IsSource edges P node source → Comes edges P old.nodes source
comes_from edges P old new h node source held is =
    elim (grown_cases (Comes edges P old.nodes) old new h node held) [
      | inl before ↦ (is.0, (node, (before, (source ∷ (node ∷ []), leads_cons edges (node ∷ []) source node node is.1 (leads_one edges node)))))
      | inr comes ↦ (is.0, (comes.1.0, (comes.1.1.0, (source ∷ comes.1.1.1.0, leads_cons edges comes.1.1.1.0 source node comes.1.0 is.1 comes.1.1.1.1))))
    ]

pub closed_more : (edges : List Edge) (P R Q : ℕ → Type 0) (old new : NodeSetState) (at node : ℕ) → IsClosedBelow edges P R old.nodes at
    → slice_get old.nodes at ≡ Some node → IsGrown Q old new
    → ((source : ℕ) → HasEdge edges source node → P source → Contains new.nodes source ⊎ R source)
    → IsClosedBelow edges P R new.nodes (at + 1)
closed_more edges P R Q old new at node h here grown there = λ a b place low is edge is_p.
    let within = slice_get_within old.nodes at node here in
    let was = grown_at Q old new grown place b (omega arith) is in
    elim (cases_lt place at) [
      | inl before ↦ stays_or Q R old new grown a (h a b place before was edge is_p)
      | inr behind ↦
          let same : place ≡ at = omega arith in
          let is_node : b ≡ node = same_Some b node (sym was ∙ subst (λ p. slice_get old.nodes p ≡ Some node) (sym same) here) in
          there a (subst (HasEdge edges a) is_node edge) is_p
    ]

pub closed_all : (edges : List Edge) (P R : ℕ → Type 0) (nodes : List ℕ) (at : ℕ) → length nodes ≤ at → IsClosedBelow edges P R nodes at
    → IsClosed edges P R nodes
closed_all edges P R nodes at all h = λ a b edge held is_p.
    let place = place_held nodes b held in
    h a b place.0 (omega (arith, slice_get_within nodes place.0 b place.1)) place.1 edge is_p

-- a node that is final holds up none
pub final_holds_none : (states : List State) (found : List ℕ) (n : ℕ) → IsIn Finalized states n → ¬ Holds states found n
final_holds_none states found n final (inl active) = active_finalized states n active final
final_holds_none states found n final (inr waits) = finalizing_finalized states n waits.0 final

-- a node that includes one that holds it up, out of its targets
pub held_up_by : (edges : List Edge) (states : List State) (found targets : List ℕ) (node i : ℕ) → targets ≡ targets_of edges node → i < length targets
    → Holds states found (get_or targets i 0) → IsHeldUp edges states found node
held_up_by edges states found targets node i e within holds =
    let target = get_or targets i 0 in
    (target, ((targets_are edges node target).0 (subst (λ xs. Contains xs target) e (Contains-get_or targets i 0 within)), holds))

pub not_held_up : (edges : List Edge) (states : List State) (found targets : List ℕ) (node : ℕ) → targets ≡ targets_of edges node
    → All (λ t. ¬ Holds states found t) targets → IsHeldUp edges states found node → ⊥
not_held_up edges states found targets node e none up =
    All-contains (λ t. ¬ Holds states found t) targets up.0 none (subst (λ xs. Contains xs up.0) (sym e) ((targets_are edges node up.0).1 up.1.0)) up.1.1

-- the nodes that are held up, from those that include one that holds them up
pub held_are : (edges : List Edge) (states : List State) (found : List ℕ) (none one all : NodeSetState) → none.nodes ≡ []
    → IsGrown (IsHeldUp edges states found) none one → ((n : ℕ) → Contains found n → IsHeldUp edges states found n → Contains one.nodes n)
    → IsGrown (Comes edges (Contains found) one.nodes) one all → IsClosed edges (Contains found) (λ n. ⊥) all.nodes → AreHeld edges states found all.nodes
held_are edges states found none one all e ups there grown closed =
    let why : (n : ℕ) → Contains one.nodes n → IsHeldUp edges states found n = λ n held. elim (grown_cases (IsHeldUp edges states found) none one ups n held) [
      | inl old ↦ let no : Contains [] n = subst (λ (xs : List ℕ). Contains xs n) e old in absurd (omega (arith, no.1))
      | inr up ↦ up
    ] in
    record {
      begun = λ n held up. grown_stays (Comes edges (Contains found) one.nodes) one all grown n (there n held up);
      closed = closed;
      sound = λ n held. elim (grown_cases (Comes edges (Contains found) one.nodes) one all grown n held) [
        | inl old ↦ let up = why n old in (up.0, (reaches_more edges n n up.0 (reaches_itself edges n) up.1.0, up.1.1))
        | inr comes ↦ let up = why comes.1.0 comes.1.1.0 in (up.0, (reaches_more edges n comes.1.0 up.0 comes.1.1.1 up.1.0, up.1.1))
      ];
    }

-- what a filter keeps
pub filter_holds : (p : ℕ → Bool) (xs : List ℕ) (n : ℕ) → Contains (filter p xs) n ↔ (Contains xs n × (p n ≡ true))
filter_holds p [] n = (λ held. absurd (omega (arith, held.1)), λ both. absurd (omega (arith, both.0.1)))
filter_holds p (x ∷ xs) n =
    let rest = filter_holds p xs n in
    elim (cases_Bool (p x)) [
      | inl yes_ ↦
          let is : filter p (x ∷ xs) ≡ x ∷ filter p xs = cond-true (p x) (x ∷ filter p xs) (filter p xs) yes_ in (
            λ held.
                let held_is = subst (λ ys. Contains ys n) is held in
                elim (first_or_rest x n (filter p xs) held_is.0 held_is.1 held_is.2) [
                  | inl same ↦ (subst (Contains (x ∷ xs)) same (zero, omega arith, refl), subst (λ m. p m ≡ true) same yes_)
                  | inr held_rest ↦ let both = rest.0 held_rest in (in_rest x n xs both.0, both.1)
                ],
            λ both. subst (λ ys. Contains ys n) (sym is) (elim (first_or_rest x n xs both.0.0 both.0.1 both.0.2) [
              | inl same ↦ subst (Contains (x ∷ filter p xs)) same (zero, omega arith, refl)
              | inr held_rest ↦ in_rest x n (filter p xs) (rest.1 (held_rest, both.1))
            ]),
          )
      | inr no_ ↦
          let is : filter p (x ∷ xs) ≡ filter p xs = cond-false (p x) (x ∷ filter p xs) (filter p xs) no_ in (
            λ held. let both = rest.0 (subst (λ ys. Contains ys n) is held) in (in_rest x n xs both.0, both.1),
            λ both. subst (λ ys. Contains ys n) (sym is) (elim (first_or_rest x n xs both.0.0 both.0.1 both.0.2) [
              | inl same ↦ let no : true ≡ false = sym both.1 ∙ ap p (sym same) ∙ no_ in cc
              | inr held_rest ↦ rest.1 (held_rest, both.1)
            ]),
          )
    ]

-- the next of the ascending nodes isn't among those before it
pub not_before : (p : ℕ → Bool) (nodes : List ℕ) (i : ℕ) → IsStrictlyIncreasing nodes → i < length nodes → ¬ Contains (filter p (take i nodes)) (get_or nodes i 0)
not_before p nodes i rising within = λ held.
    let x = get_or nodes i 0 in
    let front = ((filter_holds p (take i nodes) x).0 held).0 in
    let place : slice_get (take i nodes) front.0 ≡ Some x = slice_get-get_or (take i nodes) front.0 x front.1 ∙ ap (λ m. Some m) front.2 in
    let low : front.0 < i = omega (arith, front.1, length-take i nodes) in
    let there : slice_get nodes front.0 ≡ Some x =
    subst (λ xs. slice_get xs front.0 ≡ Some x) (take-append-drop i nodes) (at_left (take i nodes) (drop i nodes) front.0 front.1 ∙ place) in
    let same : get_or nodes front.0 0 ≡ x = get_or_from_slice_get nodes front.0 x 0 there in
    omega (arith, below_from_sorted nodes front.0 i 0 (sorted_from_strictly_increasing nodes rising) low within, same)

pub freed_more : (more : List ℕ) (old new : List State) (x : ℕ) → AreFreed more old new → IsIn Finalizing new x → AreFreed (more ++ x ∷ []) old (set new x Finalized)
freed_more more old new x h is =
    let within = slice_get_within new x Finalizing is in
    record {
      final = λ n held. elim (cases_eq n x) [
        | inl same ↦ subst (IsIn Finalized (set new x Finalized)) (sym same) (at_set_same new x Finalized within)
        | inr other ↦ elim (Contains-append_cases more (x ∷ []) n held) [
          | inl before ↦ at_set_other new x n Finalized other ∙ h.final n before
          | inr here ↦ absurd (other (sym (in_one x n here)))
        ]
      ];
      others = λ n not.
          let other : n ≢ x = λ same. not (subst (Contains (more ++ x ∷ [])) (sym same) (Contains-push more x)) in
          at_set_other new x n Finalized other ∙ h.others n (λ before. not (Contains-append_left more (x ∷ []) n before));
      count = length-set new x Finalized ∙ h.count;
      left = omega (arith, h.left, unfinal_set new x is, length_push more x);
    }
