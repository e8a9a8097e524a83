use Rattle.std.proofs.Common.{◌≡◌, ℕ, ◌<◌, ◌≤◌, ◌||◌, List, length, get_or, ap, ◌∙◌, sym, arith}
use Rattle.std.proofs.lemmas.Grind.{get_or_default_zero}
use Rattle.permissions.specs.Graph.{has, edges}
use Rattle.permissions.proofs.GraphLemmas.{has_of, reaches_at_once}
use Rattle.policy_reading.proofs.SearchLemmas.{all_found, closed_more, begun_more, reached_more}
use Rattle.policy_reading.proofs.graph.find_others.Goals as goal

pub loop-at-init : goal.loop-at-init
loop-at-init c = record {
  len = c.requires.len;
  marked = c.requires.marked;
  begun = λ q e. c.requires.begun q ∙ e;
  done = λ i below. absurd (omega arith);
  reached = λ q e. reaches_at_once c.args.graph.now c.args.start q (sym (c.requires.begun q) ∙ e);
}

pub loop-at-preserved : goal.loop-at-preserved
loop-at-preserved c =
    let graph = c.args.graph.now in
    let old = c.loop-at.found.items in
    let new = c.find_places.new.found.items in
    let within : c.loop-at.at < length old = omega (arith, c.loop-at-test.true, c.len.ensures) in
    let found : (q : ℕ) → has q new ≡ (has q old || has q (edges graph (get_or old c.loop-at.at 0))) = λ q. c.in_ok-find_places.ensures.found q ∙ ap (λ (xs : List ℕ). has q old || has q xs) (c.edges_of.ensures ∙ ap (edges graph) (c.index-place.ensures ∙ get_or_default_zero old c.loop-at.at _ within)) in
    record {
      len = c.in_ok-find_places.ensures.len ∙ c.loop-at.invariant.len;
      marked = c.in_ok-find_places.ensures.marked;
      begun = λ q e. begun_more old new _ q (found q) (c.loop-at.invariant.begun q e);
      done = closed_more graph old new c.loop-at.at within c.in_ok-find_places.ensures.kept found c.loop-at.invariant.done;
      reached = reached_more graph c.args.start (get_or old c.loop-at.at 0) old new found c.loop-at.invariant.reached (has_of old c.loop-at.at within);
    }

pub returns : goal.returns
returns c =
    let end : length c.loop-at.found.items ≤ c.loop-at.at = omega (arith, c.loop-at-test.false, c.len.ensures) in
    λ q. (c.loop-at.invariant.reached q, all_found c.args.graph.now c.args.start c.loop-at.found.items c.loop-at.at end c.loop-at.invariant.done c.loop-at.invariant.begun q)
