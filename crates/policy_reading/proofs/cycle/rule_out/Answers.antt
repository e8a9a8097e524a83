use Rattle.std.proofs.Common.{◌≡◌, true, false, ltb, sym, ◌∙◌, rules}
use Rattle.std.specs.List.{list_all}
use Rattle.permissions.specs.Graph.{edges, ReachesOn}
use Rattle.policy_reading.specs.CycleSearch.{label_at, AreFalling}
use Rattle.policy_reading.proofs.CycleLemmas.{ruled_more, ruled_here}
use Rattle.policy_reading.proofs.cycle.rule_out.Goals as goal
use Rattle.policy_reading.proofs.cycle.rule_out.Goals.{then-falling, else-falling}

pub loop-place-preserved : goal.loop-place-preserved
loop-place-preserved c =
    let graph = c.args.graph.now in
    let place = c.loop-place.place in
    let labels = c.as_slice-labels.result.now in
    let here : c.if-falling.push ≡ true → ReachesOn graph place place → ⊥ = λ yes. elim c.if-falling.branch [
      | then-falling w ↦
          let falling : AreFalling graph labels = c.are_falling-falling.ensures w.if-falling.true in
          let all : list_all (λ q. ltb (label_at labels q) (label_at labels place)) (edges graph place) ≡ true = rw (w.edges_of.ensures, w.number_at.ensures) at (sym w.all_below.ensures ∙ sym w.push-is ∙ yes) in
          ruled_here graph labels place falling all
      | else-falling w ↦ let no : false ≡ true = sym w.if-falling.false ∙ sym w.push-is ∙ yes in absurd cc
    ] in
    record {
      len = search rules;
      out = ruled_more graph c.loop-place.out.items c.push.new.self.items c.if-falling.push place c.in_ok-push.ensures.items c.loop-place.invariant.len c.loop-place.invariant.out here;
    }
