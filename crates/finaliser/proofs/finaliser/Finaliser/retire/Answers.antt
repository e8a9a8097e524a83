use Rattle.std.proofs.Common.{◌≡◌, ◌++◌, [], ℕ, filter, List, set, refl, sym, ◌∙◌, subst, arith}
use Rattle.std.specs.List.{All}
use Rattle.names_realms.specs.declared.states.State.{State}
use Rattle.names_realms.specs.declared.states.State.TheVariants.{Active, Finalizing}
use Rattle.finaliser.specs.Settling.{FinaliserState, IsIn, ReachesActive, Settles}
use Rattle.finaliser.specs.Holding.{AreFound, AreHeld, IsKept, is_free}
use Rattle.finaliser.specs.Watching.{AreWatched}
use Rattle.finaliser.proofs.HoldingLemmas.{found_moved, held_moved, settles_freed}
use Rattle.finaliser.proofs.KeptLemmas.{kept_retired, retiring}
use Rattle.finaliser.proofs.SettleLemmas.{unfinal_retired}
use Rattle.std.proofs.lemmas.List.{append-nil, length-set}
use Rattle.std.proofs.lemmas.Option.{slice_get_within}
use Rattle.inclusion_graph.proofs.ListLemmas.{at_set_same}
use Rattle.finaliser.proofs.WaitLemmas.{kept_waiting, settled_waiting, settles_none}
use Rattle.finaliser.proofs.WatchLemmas.{watched_begun, watched_freed}
use Rattle.finaliser.proofs.finaliser.Finaliser.retire.Goals as goal

pub begins_waiting-requires-clause-watched : goal.begins_waiting-requires-clause-watched
begins_waiting-requires-clause-watched c =
    let f = c.self.inside in
    let active = subst (λ (s : FinaliserState). IsIn Active s.states c.args.node) (sym c.self.view_is) c.requires in
    subst (λ (ss : List State). AreWatched f.graph.edges ss f.watches.items) (sym c.as_slice.ensures.value)
    (watched_begun f.graph.edges f.states.items f.watches.items c.args.node active c.self.invariant.1)

pub settle_free-requires-clause-finalizing : goal.settle_free-requires-clause-finalizing
settle_free-requires-clause-finalizing c =
    let f = c.self.inside in
    let node = c.args.node in
    let found = c.find.new.found.nodes in
    let moved = found_moved f.graph.edges c.as_slice-2.result.now node found c.sort.new.self.nodes c.sort.ensures.permutation c.find.ensures.found in
    subst (λ (ss : List State). All (IsIn Finalizing ss) c.sort.new.self.nodes) c.as_slice-2.ensures.value moved.finalizing

pub settle_free-requires-clause-room : goal.settle_free-requires-clause-room
settle_free-requires-clause-room c =
    let f = c.self.inside in
    let active = subst (λ (s : FinaliserState). IsIn Active s.states c.args.node) (sym c.self.view_is) c.requires in
    omega (arith, c.self.invariant.0.left, c.self.invariant.0.room_left, f.finals.ok.0, unfinal_retired f.states.items c.args.node active)

pub invariant_of-self-2 : goal.invariant_of-self-2
invariant_of-self-2 c =
    let f = c.self.inside in
    let node = c.args.node in
    let begun = c.find.new.found.nodes in
    let found = c.sort.new.self.nodes in
    let held = c.hold.new.held.nodes in
    let old = set f.states.items node Finalizing in
    let new = c.settle_free.new.states.items in
    let active = subst (λ (s : FinaliserState). IsIn Active s.states node) (sym c.self.view_is) c.requires in
    let begun_are = subst (λ (ss : List State). AreFound f.graph.edges ss node begun) c.as_slice-2.ensures.value c.find.ensures.found in
    let up_are = subst (λ (ss : List State). AreHeld f.graph.edges ss begun held) c.as_slice-3.ensures.value c.hold.ensures.held in
    let found_are = found_moved f.graph.edges old node begun found c.sort.ensures.permutation begun_are in
    let held_are = held_moved f.graph.edges old begun found held c.sort.ensures.permutation up_are in
    let retires = retiring f.graph f.states.items old f.found f.held f.finals.items found held f.finals.cap node c.self.invariant.0 active
    refl found_are held_are in
    let watched = subst (λ (ss : List State). AreWatched f.graph.edges ss c.find.new.watches.items) c.as_slice-2.ensures.value c.find.ensures.watched in (
      subst (IsKept f.graph new c.clear.new.self c.clear-2.new.self c.settle_free.new.finals.items) (sym c.settle_free.ensures.capacity)
          (subst (λ (ns : List ℕ). IsKept f.graph new c.clear.new.self c.clear-2.new.self ns f.finals.cap) (sym c.settle_free.ensures.finals)
          (kept_retired f.graph f.states.items new f.found f.held c.clear.new.self c.clear-2.new.self f.finals.items found held f.finals.cap node
          c.self.invariant.0 retires c.sort.ensures.rising c.settle_free.ensures.freed
          (record { nodes = c.clear.ensures.nodes; is_below = c.clear.ensures.same.below ∙ c.sort.ensures.same.below ∙ c.find.ensures.same.below })
          (record { nodes = c.clear-2.ensures.nodes; is_below = c.clear-2.ensures.same.below ∙ c.hold.ensures.same.below }))),
      watched_freed f.graph.edges old new c.find.new.watches.items (filter (is_free held) found) c.settle_free.ensures.freed watched,
      omega (arith, c.self.invariant.2, c.settle_free.ensures.freed.count, length-set f.states.items node Finalizing),
    )

pub returns-clause-settled : goal.returns-clause-settled
returns-clause-settled c =
    let f = c.self.inside in
    let node = c.args.node in
    let begun = c.find.new.found.nodes in
    let found = c.sort.new.self.nodes in
    let held = c.hold.new.held.nodes in
    let old = set f.states.items node Finalizing in
    let new = c.settle_free.new.states.items in
    let active = subst (λ (s : FinaliserState). IsIn Active s.states node) (sym c.self.view_is) c.requires in
    let begun_are = subst (λ (ss : List State). AreFound f.graph.edges ss node begun) c.as_slice-2.ensures.value c.find.ensures.found in
    let up_are = subst (λ (ss : List State). AreHeld f.graph.edges ss begun held) c.as_slice-3.ensures.value c.hold.ensures.held in
    let found_are = found_moved f.graph.edges old node begun found c.sort.ensures.permutation begun_are in
    let held_are = held_moved f.graph.edges old begun found held c.sort.ensures.permutation up_are in
    let retires = retiring f.graph f.states.items old f.found f.held f.finals.items found held f.finals.cap node c.self.invariant.0 active
    refl found_are held_are in
    subst (λ (s : FinaliserState). (more : List ℕ) × (c.settle_free.new.finals.items ≡ s.finals ++ more)
    × Settles s.graph.edges (set s.states node Finalizing) new more) c.self.view_is
    (filter (is_free held) found, c.settle_free.ensures.finals, settles_freed f.graph.edges f.states.items node found held new retires c.sort.ensures.rising c.settle_free.ensures.freed)

pub find-requires-clause-node : goal.find-requires-clause-node
find-requires-clause-node c =
    let f = c.self.inside in
    let active = subst (λ (s : FinaliserState). IsIn Active s.states c.args.node) (sym c.self.view_is) c.requires in
    subst (λ (ss : List State). IsIn Finalizing ss c.args.node) (sym c.as_slice-2.ensures.value)
    (at_set_same f.states.items c.args.node Finalizing (slice_get_within f.states.items c.args.node Active active))

pub invariant_of-self : goal.invariant_of-self
invariant_of-self c =
    let f = c.self.inside in
    let node = c.args.node in
    let active = subst (λ (s : FinaliserState). IsIn Active s.states node) (sym c.self.view_is) c.requires in
    let is = subst (λ (ss : List State). ReachesActive f.graph.edges ss node) c.as_slice.ensures.value (c.begins_waiting.ensures.reaches c.if-begins_waiting.true) in (
      kept_waiting f.graph f.states.items f.found f.held f.finals.items f.finals.cap node c.self.invariant.0 active is,
      subst (λ (ss : List State). AreWatched f.graph.edges ss c.begins_waiting.new.watches.items) c.as_slice.ensures.value c.begins_waiting.ensures.watched,
      omega (arith, c.self.invariant.2, length-set f.states.items node Finalizing),
    )

pub returns-then-begins_waiting-clause-settled : goal.returns-then-begins_waiting-clause-settled
returns-then-begins_waiting-clause-settled c =
    let f = c.self.inside in
    let node = c.args.node in
    let begun = set f.states.items node Finalizing in
    let active = subst (λ (s : FinaliserState). IsIn Active s.states node) (sym c.self.view_is) c.requires in
    let is = subst (λ (ss : List State). ReachesActive f.graph.edges ss node) c.as_slice.ensures.value (c.begins_waiting.ensures.reaches c.if-begins_waiting.true) in
    subst (λ (s : FinaliserState). (more : List ℕ) × (f.finals.items ≡ s.finals ++ more)
    × Settles s.graph.edges (set s.states node Finalizing) begun more) c.self.view_is
    ([], sym (append-nil f.finals.items), settles_none f.graph.edges begun (settled_waiting f.graph.edges f.states.items node c.self.invariant.0.settled active is))
