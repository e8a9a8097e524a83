-- A node that begins while it includes an active one: nothing becomes final.
use Rattle.std.proofs.Common.{◌≡◌, ◌<◌, ℕ, List, [], length, set, Contains, refl, sym, ◌∙◌, subst, inl, inr, arith}
use Rattle.std.specs.List.{All}
use Rattle.std.proofs.lemmas.Bool.{cases_eq}
use Rattle.std.proofs.lemmas.List.{length-set}
use Rattle.names_realms.specs.declared.states.State.{State}
use Rattle.names_realms.specs.declared.states.State.TheVariants.{Active, Finalizing}
use Rattle.inclusion_graph.specs.declared.edge.Edge.{Edge}
use Rattle.inclusion_graph.specs.Edges.{GraphState, targets_of}
use Rattle.inclusion_graph.specs.Walks.{Leads}
use Rattle.inclusion_graph.proofs.EdgeLemmas.{targets_are}
use Rattle.inclusion_graph.proofs.ListLemmas.{at_set_other}
use Rattle.inclusion_graph.proofs.WalkLemmas.{reaches_itself}
use Rattle.finaliser.specs.Holding.{AreWithin, IsKept, NodeSetState}
use Rattle.finaliser.specs.Settling.{IsIn, IsSettled, ReachesActive, Settles}
use Rattle.finaliser.proofs.HoldingLemmas.{none_of_final, through}
use Rattle.finaliser.proofs.MarkLemmas.{reaches_back}
use Rattle.finaliser.proofs.SettleLemmas.{unfinal_retired}

-- one of the targets is active
pub includes_reaches : (edges : List Edge) (states : List State) (node target : ℕ) → Contains (targets_of edges node) target → IsIn Active states target
    → ReachesActive edges states node
includes_reaches edges states node target is active =
    reaches_back edges states node target ((targets_are edges node target).0 is) (target, reaches_itself edges target, active)

-- what is finalizing reaches an active node still
pub settled_waiting : (edges : List Edge) (old : List State) (node : ℕ) → IsSettled edges old → IsIn Active old node
    → ReachesActive edges (set old node Finalizing) node → IsSettled edges (set old node Finalizing)
settled_waiting edges old node h active reaches =
    let states = set old node Finalizing in
    record {
      waits = λ k at. elim (cases_eq k node) [
        | inl same ↦ subst (ReachesActive edges states) (sym same) reaches
        | inr other ↦
            let waits = h.waits k (sym (at_set_other old node k Finalizing other) ∙ at) in
            elim (cases_eq waits.0 node) [
              | inl begun ↦ through edges states waits.1.0 k node (subst (Leads edges waits.1.0 k) begun waits.1.1) reaches
              | inr away ↦ (waits.0, waits.1, at_set_other old node waits.0 Finalizing away ∙ waits.2)
            ]
      ];
      done = λ k final. none_of_final edges old node k h active final;
    }

-- settled states settle into themselves
pub settles_none : (edges : List Edge) (states : List State) → IsSettled edges states → Settles edges states states []
settles_none edges states h = record {
  rising = λ k within. absurd (omega arith);
  all = λ n. (λ held. absurd (omega (arith, held.1)), λ both. absurd (both.1 (h.waits n both.0)));
  final = λ n held. absurd (omega (arith, held.1));
  others = λ n not. refl;
  count = refl;
}

pub kept_waiting : (graph : GraphState) (states : List State) (found held : NodeSetState) (finals : List ℕ) (room node : ℕ)
    → IsKept graph states found held finals room → IsIn Active states node → ReachesActive graph.edges (set states node Finalizing) node
    → IsKept graph (set states node Finalizing) found held finals room
kept_waiting graph states found held finals room node h active is =
    let same : length (set states node Finalizing) ≡ length states = length-set states node Finalizing in
    record {
      nodes = h.nodes ∙ sym same;
      joined = subst (AreWithin graph.edges) (sym same) h.joined;
      settled = settled_waiting graph.edges states node h.settled active is;
      found_none = h.found_none;
      found_below = h.found_below ∙ sym same;
      held_none = h.held_none;
      held_below = h.held_below ∙ sym same;
      left = omega (arith, h.left, unfinal_retired states node active, same);
      room_left = omega (arith, h.room_left, same);
      within = subst (λ n. All (λ k. k < n) finals) (sym same) h.within;
    }
