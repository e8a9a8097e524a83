-- Marks, and what reaches an active node.
use Rattle.std.proofs.Common.{◌≡◌, ◌<◌, ℕ, Bool, true, false, List, ◌∷◌, length, sym, ◌∙◌, inl, inr}
use Rattle.std.proofs.lemmas.Bool.{cases_lt}
use Rattle.std.proofs.lemmas.List.{get_or_past}
use Rattle.names_realms.specs.declared.states.State.{State}
use Rattle.inclusion_graph.specs.declared.edge.Edge.{Edge}
use Rattle.inclusion_graph.specs.Edges.{HasEdge}
use Rattle.inclusion_graph.proofs.WalkLemmas.{leads_cons}
use Rattle.finaliser.specs.Marks.{Marks}
use Rattle.finaliser.specs.Settling.{ReachesActive}

pub marked_within : (marks : List Bool) (n : ℕ) → Marks marks n → n < length marks
marked_within marks n e =
    elim (cases_lt n (length marks)) [
      | inl low ↦ low
      | inr past ↦ let no : false ≡ true = sym (get_or_past marks n false past) ∙ e in cc
    ]

pub reaches_back : (edges : List Edge) (states : List State) (a b : ℕ) → HasEdge edges a b → ReachesActive edges states b → ReachesActive edges states a
reaches_back edges states a b e h = (h.0, (a ∷ h.1.0, leads_cons edges h.1.0 a b h.0 e h.1.1), h.2)
