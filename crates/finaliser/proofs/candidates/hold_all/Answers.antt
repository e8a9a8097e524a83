use Rattle.std.proofs.Common.{ℕ, Contains, inl, arith}
use Rattle.std.proofs.lemmas.Option.{slice_get_within}
use Rattle.inclusion_graph.proofs.ListLemmas.{contained}
use Rattle.finaliser.specs.Holding.{Comes, IsSource}
use Rattle.finaliser.proofs.CandidateLemmas.{closed_all, closed_more, comes_from, grown_length, grown_more}
use Rattle.finaliser.proofs.candidates.hold_all.Goals as goal

pub nodes-preserved : goal.nodes-preserved
nodes-preserved c =
    let edges = c.args.graph.now.edges in
    let P : ℕ → Type 0 = Contains c.args.found.now.nodes in
    let R : ℕ → Type 0 = λ n. ⊥ in
    let begun = c.args.held.now in
    let old = c.nodes.held in
    let new = c.hold_sources.new.held in
    let node = c.at-node.result in
    let h = c.nodes.invariant in
    let held = contained old.nodes c.nodes.at node c.at-node.ensures.at in
    record {
      grown = grown_more (Comes edges P begun.nodes) (IsSource edges P node)
          (λ source is. comes_from edges P begun old h.grown node source held is) begun old new h.grown c.hold_sources.ensures.grown;
      closed = closed_more edges P R (IsSource edges P node) old new c.nodes.at node h.closed c.at-node.ensures.at c.hold_sources.ensures.grown
          (λ source edge is. inl (c.hold_sources.ensures.there source edge is));
      within = omega (arith, slice_get_within old.nodes c.nodes.at node c.at-node.ensures.at, grown_length (IsSource edges P node) old new c.hold_sources.ensures.grown);
    }

pub returns-clause-closed : goal.returns-clause-closed
returns-clause-closed c =
    closed_all c.args.graph.now.edges (Contains c.args.found.now.nodes) (λ n. ⊥) c.nodes.held.nodes c.nodes.at
    (omega (arith, c.nodes-test.false, c.len.ensures.count)) c.nodes.invariant.closed
