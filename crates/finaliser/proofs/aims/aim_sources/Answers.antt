use Rattle.std.proofs.Common.{ℕ, List, get_or, refl, ◌∙◌, subst, arith}
use Rattle.inclusion_graph.specs.declared.edge.Edge.{Edge}
use Rattle.finaliser.specs.Holding.{ArePassed}
use Rattle.finaliser.specs.Watching.{IsAimed}
use Rattle.finaliser.proofs.CandidateLemmas.{passed_at, passed_none, passed_on}
use Rattle.finaliser.proofs.WatchLemmas.{watch_read, watched_aimed}
use Rattle.finaliser.proofs.aims.aim_sources.Goals as goal

pub sources-init : goal.sources-init
sources-init c = record {
  passed = passed_none c.args.graph.now.edges c.args.node c.args.seen.now.nodes c.first_edge_to-next.result c.first_edge_to-next.ensures;
  watched = c.requires.watched;
  same = record { below = refl; spare = omega arith };
  capacity = refl;
}

pub sources-preserved : goal.sources-preserved
sources-preserved c =
    let edges = c.args.graph.now.edges in
    let states = c.args.states.now in
    let never : ℕ → Type 0 = λ n. ⊥ in
    let node = c.args.node in
    let place = c.in-Some.place in
    let d : Edge = record { from = 0; to = 0 } in
    let h = c.sources.invariant in
    let passed = subst (ArePassed edges never never node c.sources.seen.nodes) c.in-Some.is h.passed in
    let at = passed_at edges never never node c.sources.seen.nodes place d passed in
    let watch = c.index.result.now in
    let begun = c.args.watches.now.items in
    let read = watch_read edges states begun node watch c.requires.watched c.requires.node c.index.ensures in
    let aimed = subst (λ (es : List Edge). IsAimed c.sources.watches.items c.aim_source.new.watches.items (get_or es place d).from watch.aim)
    c.edges-edges.ensures.edges c.aim_source.ensures.watches in
    record {
      passed = passed_on edges node c.sources.seen.nodes c.aim_source.new.seen.nodes place c.next_edge_to-next.result passed c.next_edge_to-next.ensures;
      watched = watched_aimed edges states c.sources.watches.items c.aim_source.new.watches.items (get_or edges place d).from node watch.aim watch
          h.watched aimed (c.requires.watched.each node watch read) refl at.1;
      same = record {
        below = c.aim_source.ensures.same.below ∙ h.same.below;
        spare = omega (arith, h.same.spare, c.aim_source.ensures.same.spare);
      };
      capacity = c.aim_source.ensures.capacity ∙ h.capacity;
    }
