use Rattle.std.proofs.Common.{◌≡◌, ◌↔◌, true, ℕ, List, Contains, get_or, sym, subst, inl, inr}
use Rattle.inclusion_graph.specs.declared.edge.Edge.{Edge}
use Rattle.inclusion_graph.specs.Edges.{HasEdge}
use Rattle.finaliser.specs.Holding.{ArePassed, IsGrown, IsSource}
use Rattle.finaliser.proofs.CandidateLemmas.{grown_more, grown_weaker, passed_all, passed_at, passed_more}
use Rattle.finaliser.proofs.candidates.hold_sources.Goals as goal

pub sources-preserved : goal.sources-preserved
sources-preserved c =
    let edges = c.args.graph.now.edges in
    let P : ℕ → Type 0 = Contains c.args.found.now.nodes in
    let R : ℕ → Type 0 = λ n. ⊥ in
    let node = c.args.node in
    let place = c.in-Some.place in
    let d : Edge = record { from = 0; to = 0 } in
    let old = c.sources.held in
    let new = c.add_if.new.set in
    let source = (get_or edges place d).from in
    let passed = subst (ArePassed edges P R node old.nodes) c.in-Some.is c.sources.invariant.passed in
    let at = passed_at edges P R node old.nodes place d passed in
    let Q : ℕ → Type 0 = λ n. P n × (n ≡ source) in
    let has_says : (c.has.result ≡ true) ↔ P source =
    subst (λ (es : List Edge). (c.has.result ≡ true) ↔ P (get_or es place d).from) c.edges-edges.ensures.edges c.has.ensures in
    let grown : IsGrown Q old new =
    grown_weaker (λ n. (c.has.result ≡ true) × (n ≡ source)) Q old new (λ n is. (subst P (sym is.1) (has_says.0 is.0), is.1))
    (subst (λ (es : List Edge). IsGrown (λ n. (c.has.result ≡ true) × (n ≡ (get_or es place d).from)) old new) c.edges-edges.ensures.edges c.add_if.ensures.grown) in
    let there = λ (is : P source).
    subst (λ (es : List Edge). Contains new.nodes (get_or es place d).from) c.edges-edges.ensures.edges (c.add_if.ensures.there (has_says.1 is)) in
    record {
      grown = grown_more (IsSource edges P node) Q
          (λ n is. (is.0, subst (λ m. HasEdge edges m node) (sym is.1) at.1)) c.args.held.now old new c.sources.invariant.grown grown;
      passed = passed_more edges P R node Q old new place d c.next_edge_to-next.result passed grown (λ is. inl (there is)) c.next_edge_to-next.ensures;
    }

pub returns-clause-there : goal.returns-clause-there
returns-clause-there c = λ source edge is.
    elim (passed_all c.args.graph.now.edges (Contains c.args.found.now.nodes) (λ n. ⊥) c.args.node c.sources.held.nodes c.sources.next
    c.in_default.is c.sources.invariant.passed source edge is) [ inl held ↦ held | inr never ↦ absurd never ]
