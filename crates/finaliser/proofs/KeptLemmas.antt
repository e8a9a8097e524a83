-- What a finaliser keeps, call by call.
use Rattle.std.proofs.Common.{◌≡◌, ◌<◌, ◌≤◌, ◌+◌, ℕ, filter, List, [], ◌∷◌, ◌++◌, length, set, refl, sym, ◌∙◌, subst, arith}
use Rattle.std.specs.List.{All}
use Rattle.std.specs.List.Sorted.{IsStrictlyIncreasing}
use Rattle.std.proofs.lemmas.List.{length-append, length-set, length_push}
use Rattle.std.proofs.lemmas.List.Elements.{All-append, All-map, All-weaker}
use Rattle.std.proofs.lemmas.Option.{slice_get_within}
use Rattle.names_realms.specs.declared.states.State.{State}
use Rattle.names_realms.specs.declared.states.State.TheVariants.{Active, Finalizing}
use Rattle.inclusion_graph.specs.declared.edge.Edge.{Edge}
use Rattle.inclusion_graph.specs.Edges.{GraphState, edges_from}
use Rattle.finaliser.specs.Holding.{AreFound, AreFreed, AreHeld, AreWithin, IsKept, NodeSetState, is_free}
use Rattle.finaliser.specs.Settling.{IsIn, IsSettled}
use Rattle.finaliser.proofs.CandidateLemmas.{all_if}
use Rattle.finaliser.proofs.HoldingLemmas.{IsRetiring, settled_after, settled_edges, settled_node, settles_freed}
use Rattle.finaliser.proofs.SettleLemmas.{unfinal_push, unfinal_retired}

within_more : (edges : List Edge) (m n : ℕ) → m ≤ n → AreWithin edges m → AreWithin edges n
within_more edges m n low h = record {
  from = All-weaker (λ (e : Edge). e.from < m) (λ (e : Edge). e.from < n) (λ e lt. omega arith) edges h.from;
  to = All-weaker (λ (e : Edge). e.to < m) (λ (e : Edge). e.to < n) (λ e lt. omega arith) edges h.to;
}

-- a set that is empty, out of so many nodes
pub record IsEmptied (s : NodeSetState) (below : ℕ) : Type 0 where
  pub nodes : s.nodes ≡ []
  pub is_below : s.below ≡ below

pub kept_node : (graph new : GraphState) (states : List State) (found held found1 held1 : NodeSetState) (finals : List ℕ) (room : ℕ)
    → IsKept graph states found held finals room → new.nodes ≡ graph.nodes + 1 → new.edges ≡ graph.edges
    → IsEmptied found1 (found.below + 1) → IsEmptied held1 (held.below + 1) → length states < room
    → IsKept new (states ++ Active ∷ []) found1 held1 finals room
kept_node graph new states found held found1 held1 finals room h nodes edges e f low =
    let more = length_push states Active in
    let settled = settled_node graph.edges states h.joined h.settled in
    let joined = within_more graph.edges (length states) (length (states ++ Active ∷ [])) (omega (arith, more)) h.joined in
    record {
      nodes = omega (arith, nodes, h.nodes, more);
      joined = subst (λ (es : List Edge). AreWithin es (length (states ++ Active ∷ []))) (sym edges) joined;
      settled = subst (λ (es : List Edge). IsSettled es (states ++ Active ∷ [])) (sym edges) settled;
      found_none = e.nodes;
      found_below = omega (arith, e.is_below, h.found_below, more);
      held_none = f.nodes;
      held_below = omega (arith, f.is_below, h.held_below, more);
      left = omega (arith, h.left, more, unfinal_push states);
      room_left = omega (arith, more);
      within = All-weaker (λ n. n < length states) (λ n. n < length (states ++ Active ∷ [])) (λ n lt. omega (arith, more)) finals h.within;
    }

pub kept_edges : (graph new : GraphState) (states : List State) (found held : NodeSetState) (finals targets : List ℕ) (room from : ℕ)
    → IsKept graph states found held finals room → new.nodes ≡ graph.nodes → new.edges ≡ graph.edges ++ edges_from from targets
    → IsIn Active states from → All (λ t. t < graph.nodes) targets → IsKept new states found held finals room
kept_edges graph new states found held finals targets room from h nodes edges active low =
    let n = length states in
    let more = edges_from from targets in
    let within = slice_get_within states from Active active in
    let from_all : All (λ (e : Edge). e.from < n) more = All-map (λ (e : Edge). e.from < n) (λ t. record { from = from; to = t }) targets (λ k d lt. within) in
    let to_all : All (λ (e : Edge). e.to < n) more = All-map (λ (e : Edge). e.to < n) (λ t. record { from = from; to = t }) targets (subst (λ m. All (λ t. t < m) targets) h.nodes low) in
    let same_all : All (λ (e : Edge). e.from ≡ from) more = All-map (λ (e : Edge). e.from ≡ from) (λ t. record { from = from; to = t }) targets (λ k d lt. refl) in
    let joined : AreWithin (graph.edges ++ more) n = record {
      from = All-append (λ (e : Edge). e.from < n) graph.edges more h.joined.from from_all;
      to = All-append (λ (e : Edge). e.to < n) graph.edges more h.joined.to to_all;
    } in
    record {
      nodes = nodes ∙ h.nodes;
      joined = subst (λ (es : List Edge). AreWithin es n) (sym edges) joined;
      settled = subst (λ (es : List Edge). IsSettled es states) (sym edges) (settled_edges graph.edges more states from active same_all h.settled);
      found_none = h.found_none;
      found_below = h.found_below;
      held_none = h.held_none;
      held_below = h.held_below;
      left = h.left;
      room_left = h.room_left;
      within = h.within;
    }

pub retiring : (graph : GraphState) (states slice : List State) (found0 held0 : NodeSetState) (finals found held : List ℕ) (room node : ℕ)
    → IsKept graph states found0 held0 finals room → IsIn Active states node → slice ≡ set states node Finalizing
    → AreFound graph.edges slice node found → AreHeld graph.edges slice found held → IsRetiring graph.edges states node found held
retiring graph states slice found0 held0 finals found held room node h active e found_are held_are = record {
  settled = h.settled;
  active = active;
  within = h.joined;
  found_are = subst (λ (ss : List State). AreFound graph.edges ss node found) e found_are;
  held_are = subst (λ (ss : List State). AreHeld graph.edges ss found held) e held_are;
}

pub kept_retired : (graph : GraphState) (states new : List State) (found0 held0 found1 held1 : NodeSetState) (finals found held : List ℕ) (room node : ℕ)
    → IsKept graph states found0 held0 finals room → IsRetiring graph.edges states node found held → IsStrictlyIncreasing found
    → AreFreed (filter (is_free held) found) (set states node Finalizing) new → IsEmptied found1 found0.below → IsEmptied held1 held0.below
    → IsKept graph new found1 held1 (finals ++ filter (is_free held) found) room
kept_retired graph states new found0 held0 found1 held1 finals found held room node h retires rising freed e f =
    let more = filter (is_free held) found in
    let begun = set states node Finalizing in
    let settles = settles_freed graph.edges states node found held new retires rising freed in
    let count : length new ≡ length states = freed.count ∙ length-set states node Finalizing in
    record {
      nodes = h.nodes ∙ sym count;
      joined = subst (AreWithin graph.edges) (sym count) h.joined;
      settled = settled_after graph.edges states node found held new more retires settles;
      found_none = e.nodes;
      found_below = e.is_below ∙ h.found_below ∙ sym count;
      held_none = f.nodes;
      held_below = f.is_below ∙ h.held_below ∙ sym count;
      left = omega (arith, h.left, freed.left, count, length-append finals more, unfinal_retired states node retires.active);
      room_left = omega (arith, h.room_left, count);
      within = subst (λ n. All (λ k. k < n) (finals ++ more)) (sym count) (All-append (λ k. k < length states) finals more h.within
          (all_if (λ k. k < length states) more (λ k is. omega (arith, slice_get_within begun k Finalizing ((settles.all k).0 is).0, length-set states node Finalizing))));
    }
