use Rattle.std.proofs.Common.{◌≡◌, ◌<◌, ◌++◌, ◌∷◌, [], ℕ, List, length, sym, ap, ◌∙◌, subst, arith}
use Rattle.std.proofs.lemmas.List.{length_push}
use Rattle.names_realms.specs.declared.states.State.{State}
use Rattle.names_realms.specs.declared.states.State.TheVariants.{Active}
use Rattle.inclusion_graph.specs.declared.edge.Edge.{Edge}
use Rattle.finaliser.specs.declared.watches.Watch.{Watch}
use Rattle.finaliser.specs.Settling.{FinaliserState}
use Rattle.finaliser.specs.Holding.{IsKept}
use Rattle.finaliser.specs.Watching.{AreWatched}
use Rattle.finaliser.proofs.KeptLemmas.{kept_node}
use Rattle.finaliser.proofs.WatchLemmas.{watched_node}
use Rattle.finaliser.proofs.finaliser.Finaliser.add_active.Goals as goal

pub invariant_of-self : goal.invariant_of-self
invariant_of-self c =
    let f = c.self.inside in
    let kept = c.self.invariant.0 in
    let states = f.states.items in
    let graph = c.add_node-aim.new.self in
    let room = subst (λ (s : FinaliserState). 0 < s.spare) (sym c.self.view_is) c.requires in
    let is : c.add_node-aim.result ≡ length states = c.add_node-aim.ensures.number ∙ kept.nodes in
    let ws : List Watch = f.watches.items ++ record { passed = 0; aim = c.add_node-aim.result } ∷ [] in
    let watched : AreWatched f.graph.edges (states ++ Active ∷ []) ws =
    subst (λ (m : ℕ). AreWatched f.graph.edges (states ++ Active ∷ []) (f.watches.items ++ record { passed = 0; aim = m } ∷ [])) (sym is)
    (watched_node f.graph.edges states f.watches.items c.self.invariant.1) in (
      subst (λ (ss : List State). IsKept graph ss c.add_node.new.self c.add_node-2.new.self f.finals.items f.finals.cap) (sym c.push_reserved.ensures.items)
          (kept_node f.graph graph states f.found f.held c.add_node.new.self c.add_node-2.new.self f.finals.items f.finals.cap kept
          c.add_node-aim.ensures.roomier.nodes c.add_node-aim.ensures.roomier.edges
          (record { nodes = c.add_node.ensures.nodes ∙ kept.found_none; is_below = c.add_node.ensures.below })
          (record { nodes = c.add_node-2.ensures.nodes ∙ kept.held_none; is_below = c.add_node-2.ensures.below })
          (omega (arith, room, f.states.ok.0))),
      subst (λ (ws : List Watch). AreWatched graph.edges c.push_reserved.new.self.items ws) (sym c.push_reserved-2.ensures.items)
          (subst (λ (ss : List State). AreWatched graph.edges ss ws) (sym c.push_reserved.ensures.items)
          (subst (λ (es : List Edge). AreWatched es (states ++ Active ∷ []) ws) (sym c.add_node-aim.ensures.roomier.edges) watched)),
      omega (arith, c.add_node-3.ensures.below, c.self.invariant.2, length_push states Active, ap (λ (ss : List State). length ss) c.push_reserved.ensures.items),
    )
