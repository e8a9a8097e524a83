use Rattle.std.proofs.Common.{ℕ, ◌∙◌, arith}
use Rattle.std.proofs.lemmas.Option.{slice_get_within}
use Rattle.inclusion_graph.proofs.ListLemmas.{contained}
use Rattle.names_realms.specs.declared.states.State.TheVariants.{Finalizing}
use Rattle.finaliser.specs.Holding.{Comes, IsSource}
use Rattle.finaliser.specs.Settling.{IsIn, ReachesActive}
use Rattle.finaliser.proofs.CandidateLemmas.{closed_all, closed_more, comes_from, grown_length, grown_more}
use Rattle.finaliser.proofs.candidates.close.Goals as goal

pub nodes-preserved : goal.nodes-preserved
nodes-preserved c =
    let edges = c.args.graph.now.edges in
    let P : ℕ → Type 0 = IsIn Finalizing c.args.states.now in
    let R : ℕ → Type 0 = ReachesActive edges c.args.states.now in
    let begun = c.args.set.now in
    let old = c.nodes.set in
    let new = c.add_sources.new.set in
    let node = c.at-node.result in
    let h = c.nodes.invariant in
    let held = contained old.nodes c.nodes.at node c.at-node.ensures.at in
    record {
      grown = grown_more (Comes edges P begun.nodes) (IsSource edges P node)
          (λ source is. comes_from edges P begun old h.grown node source held is) begun old new h.grown c.add_sources.ensures.grown;
      closed = closed_more edges P R (IsSource edges P node) old new c.nodes.at node h.closed c.at-node.ensures.at c.add_sources.ensures.grown c.add_sources.ensures.there;
      within = omega (arith, slice_get_within old.nodes c.nodes.at node c.at-node.ensures.at, grown_length (IsSource edges P node) old new c.add_sources.ensures.grown);
      watched = c.add_sources.ensures.watched;
      capacity = c.add_sources.ensures.capacity ∙ h.capacity;
    }

pub returns-clause-closed : goal.returns-clause-closed
returns-clause-closed c =
    let edges = c.args.graph.now.edges in
    closed_all edges (IsIn Finalizing c.args.states.now) (ReachesActive edges c.args.states.now) c.nodes.set.nodes c.nodes.at
    (omega (arith, c.nodes-test.false, c.len.ensures.count)) c.nodes.invariant.closed
