use Rattle.std.proofs.Common.{◌≡◌, ◌<◌, ◌≤◌, ◌+◌, ◌++◌, List, length, take, drop, refl, sym, ap, ◌∙◌, subst, arith}
use Rattle.std.specs.List.{All}
use Rattle.std.proofs.lemmas.List.{drop_at, length-drop, take_at}
use Rattle.inclusion_graph.specs.declared.edge.Edge.{Edge}
use Rattle.inclusion_graph.specs.Edges.{GraphState, fresh, targets_of}
use Rattle.inclusion_graph.proofs.ListLemmas.{fresh_within}
use Rattle.inclusion_graph.proofs.graph.Graph.prepare_edges.Goals as goal

pub returns-clause-fits : goal.returns-clause-fits
returns-clause-fits c =
    let edges = c.self.inside.edges.edges in
    let lists = c.self.inside.targets.items in
    let held = c.targets-held.result.now in
    let all = c.append_new.new.all.items in
    let new = fresh held c.args.targets.now in
    let begun : c.in-Ok.all.items ≡ held = c.in-Ok.ensures.items in
    let all_is : all ≡ held ++ new = c.append_new.ensures.all ∙ ap (λ xs. xs ++ fresh xs c.args.targets.now) begun in
    let nodes = ap (λ (g : GraphState). g.nodes) c.self.view_is in
    let edges_are = ap (λ (g : GraphState). g.edges) c.self.view_is in
    let front : take (length held) all ≡ held = ap (take (length held)) all_is ∙ take_at held new (length held) refl in
    let back : drop (length held) all ≡ new = ap (drop (length held)) all_is ∙ drop_at held new (length held) refl in
    let targets = subst (λ n. All (λ t. t < n) c.args.targets.now) (sym nodes) c.requires.targets in
    let count : length (drop (length held) all) + length edges ≤ 262_144 =
    omega (arith, length-drop (length held) all, c.self.invariant.0.few, c.append_new.new.all.ok.0) in
    record {
      from = subst (λ n. c.args.from < n) (sym nodes) c.requires.from;
      held = front ∙ c.targets-held.ensures.targets
          ∙ ap (λ (es : List Edge). targets_of es c.args.from) (sym edges_are ∙ sym c.reserve.ensures.roomier.edges);
      targets = subst (All (λ t. t < length lists)) (sym back) (fresh_within (λ t. t < length lists) held c.args.targets.now targets);
      few = rw c.reserve.ensures.roomier.edges (omega arith);
      room = omega (arith, length-drop (length held) all, c.in_ok-reserve.ensures.room_for_edges, c.append_new.new.all.ok.0);
    }
