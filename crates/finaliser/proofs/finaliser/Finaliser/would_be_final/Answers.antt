use Rattle.std.proofs.Common.{◌≡◌, ◌↔◌, true, false, not, IsTrue, List, length, set, refl, sym, ap, ◌∙◌, subst, arith}
use Rattle.std.proofs.lemmas.Grind.{common_steps}
use Rattle.names_realms.specs.declared.states.State.{State}
use Rattle.names_realms.specs.declared.states.State.TheVariants.{Active, Finalizing}
use Rattle.finaliser.specs.Settling.{FinaliserState, IsIn, ReachesActive}
use Rattle.finaliser.specs.Holding.{AreFound, AreHeld, IsKept}
use Rattle.finaliser.specs.Watching.{AreWatched}
use Rattle.finaliser.proofs.HoldingLemmas.{not_held}
use Rattle.finaliser.proofs.KeptLemmas.{retiring}
use Rattle.finaliser.proofs.SettleLemmas.{set_back}
use Rattle.std.proofs.lemmas.Option.{slice_get_within}
use Rattle.inclusion_graph.proofs.ListLemmas.{at_set_same}
use Rattle.finaliser.proofs.WatchLemmas.{watched_back, watched_begun}
use Rattle.finaliser.proofs.finaliser.Finaliser.would_be_final.Goals as goal

pub begins_waiting-requires-clause-watched : goal.begins_waiting-requires-clause-watched
begins_waiting-requires-clause-watched c =
    let f = c.self.inside in
    let active = subst (λ (s : FinaliserState). IsIn Active s.states c.args.node) (sym c.self.view_is) c.requires in
    subst (λ (ss : List State). AreWatched f.graph.edges ss f.watches.items) (sym c.as_slice.ensures.value)
    (watched_begun f.graph.edges f.states.items f.watches.items c.args.node active c.self.invariant.1)

pub invariant_of-self-2 : goal.invariant_of-self-2
invariant_of-self-2 c =
    let f = c.self.inside in
    let kept = c.self.invariant.0 in
    let active = subst (λ (s : FinaliserState). IsIn Active s.states c.args.node) (sym c.self.view_is) c.requires in
    let back : set (set f.states.items c.args.node Finalizing) c.args.node Active ≡ f.states.items = set_back f.states.items c.args.node Finalizing Active active in
    let watched = watched_back f.graph.edges f.states.items c.find.new.watches.items c.args.node active
    (subst (λ (ss : List State). AreWatched f.graph.edges ss c.find.new.watches.items) c.as_slice-2.ensures.value c.find.ensures.watched) in (
      subst (λ (ss : List State). IsKept f.graph ss c.clear.new.self c.clear-2.new.self f.finals.items f.finals.cap) (sym back)
          (record {
            nodes = kept.nodes;
            joined = kept.joined;
            settled = kept.settled;
            found_none = c.clear.ensures.nodes;
            found_below = c.clear.ensures.same.below ∙ c.find.ensures.same.below ∙ kept.found_below;
            held_none = c.clear-2.ensures.nodes;
            held_below = c.clear-2.ensures.same.below ∙ c.hold.ensures.same.below ∙ kept.held_below;
            left = kept.left;
            room_left = kept.room_left;
            within = kept.within;
          }),
      subst (λ (ss : List State). AreWatched f.graph.edges ss c.find.new.watches.items) (sym back) watched,
      c.self.invariant.2 ∙ ap (λ (ss : List State). length ss) (sym back),
    )

pub returns-clause-answer : goal.returns-clause-answer
returns-clause-answer c =
    let f = c.self.inside in
    let node = c.args.node in
    let found = c.find.new.found.nodes in
    let held = c.hold.new.held.nodes in
    let old = set f.states.items node Finalizing in
    let active = subst (λ (s : FinaliserState). IsIn Active s.states node) (sym c.self.view_is) c.requires in
    let found_are = subst (λ (ss : List State). AreFound f.graph.edges ss node found) c.as_slice-2.ensures.value c.find.ensures.found in
    let held_are = subst (λ (ss : List State). AreHeld f.graph.edges ss found held) c.as_slice-3.ensures.value c.hold.ensures.held in
    let retires = retiring f.graph f.states.items old f.found f.held f.finals.items found held f.finals.cap node c.self.invariant.0 active
    refl found_are held_are in
    subst (λ (s : FinaliserState). IsTrue (not c.has-waits.result) ↔ (¬ ReachesActive s.graph.edges (set s.states node Finalizing) node)) c.self.view_is
    (not_held f.graph.edges f.states.items node found held c.has-waits.result retires c.has-waits.ensures)

pub returns-clause-stays : goal.returns-clause-stays
returns-clause-stays c =
    let active = subst (λ (s : FinaliserState). IsIn Active s.states c.args.node) (sym c.self.view_is) c.requires in
    record {
      graph = ap (λ (s : FinaliserState). s.graph) c.self.view_is;
      states = set_back c.self.inside.states.items c.args.node Finalizing Active active ∙ ap (λ (s : FinaliserState). s.states) c.self.view_is;
      finals = ap (λ (s : FinaliserState). s.finals) c.self.view_is;
      spare = grind (arith, common_steps);
    }

pub find-requires-clause-node : goal.find-requires-clause-node
find-requires-clause-node c =
    let f = c.self.inside in
    let active = subst (λ (s : FinaliserState). IsIn Active s.states c.args.node) (sym c.self.view_is) c.requires in
    subst (λ (ss : List State). IsIn Finalizing ss c.args.node) (sym c.as_slice-2.ensures.value)
    (at_set_same f.states.items c.args.node Finalizing (slice_get_within f.states.items c.args.node Active active))

pub returns-then-begins_waiting-clause-answer : goal.returns-then-begins_waiting-clause-answer
returns-then-begins_waiting-clause-answer c =
    let f = c.self.inside in
    let node = c.args.node in
    let is = subst (λ (ss : List State). ReachesActive f.graph.edges ss node) c.as_slice.ensures.value (c.begins_waiting.ensures.reaches c.if-begins_waiting.true) in
    let reaches = subst (λ (s : FinaliserState). ReachesActive s.graph.edges (set s.states node Finalizing) node) c.self.view_is is in
    (λ no. let never : false ≡ true = no in cc, λ none. absurd (none reaches))

pub returns-then-begins_waiting-clause-stays : goal.returns-then-begins_waiting-clause-stays
returns-then-begins_waiting-clause-stays c =
    let active = subst (λ (s : FinaliserState). IsIn Active s.states c.args.node) (sym c.self.view_is) c.requires in
    record {
      graph = ap (λ (s : FinaliserState). s.graph) c.self.view_is;
      states = set_back c.self.inside.states.items c.args.node Finalizing Active active ∙ ap (λ (s : FinaliserState). s.states) c.self.view_is;
      finals = ap (λ (s : FinaliserState). s.finals) c.self.view_is;
      spare = grind (arith, common_steps);
    }

pub invariant_of-self : goal.invariant_of-self
invariant_of-self c =
    let f = c.self.inside in
    let active = subst (λ (s : FinaliserState). IsIn Active s.states c.args.node) (sym c.self.view_is) c.requires in
    let back : set (set f.states.items c.args.node Finalizing) c.args.node Active ≡ f.states.items = set_back f.states.items c.args.node Finalizing Active active in
    let watched = watched_back f.graph.edges f.states.items c.begins_waiting.new.watches.items c.args.node active
    (subst (λ (ss : List State). AreWatched f.graph.edges ss c.begins_waiting.new.watches.items) c.as_slice.ensures.value c.begins_waiting.ensures.watched) in (
      subst (λ (ss : List State). IsKept f.graph ss f.found f.held f.finals.items f.finals.cap) (sym back) c.self.invariant.0,
      subst (λ (ss : List State). AreWatched f.graph.edges ss c.begins_waiting.new.watches.items) (sym back) watched,
      c.self.invariant.2 ∙ ap (λ (ss : List State). length ss) (sym back),
    )
