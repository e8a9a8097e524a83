use Rattle.std.proofs.Common.{List, sym, subst}
use Rattle.inclusion_graph.specs.Edges.{edges_from}
use Rattle.inclusion_graph.specs.declared.edge.Edge.{Edge}
use Rattle.inclusion_graph.specs.Plans.{Fits}
use Rattle.names_realms.specs.declared.states.State.TheVariants.{Active}
use Rattle.finaliser.specs.Settling.{FinaliserState, IsIn}
use Rattle.finaliser.specs.Watching.{AreWatched}
use Rattle.finaliser.proofs.KeptLemmas.{kept_edges}
use Rattle.finaliser.proofs.WatchLemmas.{watched_edges}
use Rattle.finaliser.proofs.finaliser.Finaliser.add_edges.Goals as goal

pub invariant_of-self : goal.invariant_of-self
invariant_of-self c =
    let f = c.self.inside in
    let plan = c.args.plan in
    let active = subst (λ (s : FinaliserState). IsIn Active s.states plan.from) (sym c.self.view_is) c.requires.from in
    let fits = subst (λ (s : FinaliserState). Fits s.graph plan) (sym c.self.view_is) c.requires.fits in (
      kept_edges f.graph c.add_edges.new.self f.states.items f.found f.held f.finals.items plan.targets f.finals.cap plan.from c.self.invariant.0
          c.add_edges.ensures.roomier.nodes c.add_edges.ensures.roomier.edges active fits.targets,
      subst (λ (es : List Edge). AreWatched es f.states.items f.watches.items) (sym c.add_edges.ensures.roomier.edges)
          (watched_edges f.graph.edges (edges_from plan.from plan.targets) f.states.items f.watches.items c.self.invariant.1),
      c.self.invariant.2,
    )
