use Rattle.std.proofs.Common.{◌≡◌, ◌⊎◌, ℕ, List, Contains, get_or, sym, ◌∙◌, subst}
use Rattle.names_realms.specs.declared.states.State.TheVariants.{Finalizing}
use Rattle.inclusion_graph.specs.declared.edge.Edge.{Edge}
use Rattle.inclusion_graph.specs.Edges.{HasEdge}
use Rattle.finaliser.specs.Holding.{ArePassed, IsGrown, IsSource}
use Rattle.finaliser.specs.Settling.{IsIn, ReachesActive}
use Rattle.finaliser.proofs.CandidateLemmas.{grown_more, passed_all, passed_at, passed_more}
use Rattle.finaliser.proofs.candidates.add_sources.Goals as goal

pub sources-preserved : goal.sources-preserved
sources-preserved c =
    let edges = c.args.graph.now.edges in
    let P : ℕ → Type 0 = IsIn Finalizing c.args.states.now in
    let R : ℕ → Type 0 = ReachesActive edges c.args.states.now in
    let node = c.args.node in
    let place = c.in-Some.place in
    let d : Edge = record { from = 0; to = 0 } in
    let old = c.sources.set in
    let new = c.add_candidate.new.set in
    let passed = subst (ArePassed edges P R node old.nodes) c.in-Some.is c.sources.invariant.passed in
    let at = passed_at edges P R node old.nodes place d passed in
    let Q : ℕ → Type 0 = λ n. P n × (n ≡ (get_or edges place d).from) in
    let grown : IsGrown Q old new =
    subst (λ (es : List Edge). IsGrown (λ n. P n × (n ≡ (get_or es place d).from)) old new) c.edges-edges.ensures.edges c.add_candidate.ensures.grown in
    let there =
    subst (λ (es : List Edge). P (get_or es place d).from → Contains new.nodes (get_or es place d).from ⊎ R (get_or es place d).from) c.edges-edges.ensures.edges c.add_candidate.ensures.there in
    record {
      grown = grown_more (IsSource edges P node) Q
          (λ n is. (is.0, subst (λ m. HasEdge edges m node) (sym is.1) at.1)) c.args.set.now old new c.sources.invariant.grown grown;
      passed = passed_more edges P R node Q old new place d c.next_edge_to-next.result passed grown there c.next_edge_to-next.ensures;
      watched = c.add_candidate.ensures.watched;
      capacity = c.add_candidate.ensures.capacity ∙ c.sources.invariant.capacity;
    }

pub returns-clause-there : goal.returns-clause-there
returns-clause-there c =
    let edges = c.args.graph.now.edges in
    passed_all edges (IsIn Finalizing c.args.states.now) (ReachesActive edges c.args.states.now) c.args.node c.sources.set.nodes c.sources.next
    c.in_default.is c.sources.invariant.passed
