use Rattle.std.proofs.Common.{◌≡◌, ◌≤ℤ◌, List, ◌∙◌, sym, subst}
use Rattle.inclusion_graph.specs.declared.edge.Edge.{Edge}
use Rattle.inclusion_graph.specs.Edges.{fresh}
use Rattle.invocation_world.specs.Advancing.{AreQuiet}
use Rattle.invocation_world.specs.Parts.{world_of}
use Rattle.invocation_world.specs.States.{Fits, WorldState}
use Rattle.invocation_world.specs.World.{IsValid}
use Rattle.invocation_world.proofs.ChangeFacts.{valid_included}
use Rattle.invocation_world.proofs.world.InvocationWorld.include.Goals as goal

pub invariant_of-self : goal.invariant_of-self
invariant_of-self c =
    let rows = c.self.inside.table.rows in
    let moment = c.args.moment in
    let plan = c.args.plan in
    let view = sym c.self.view_is in
    let fits = subst (λ (s : WorldState). Fits s plan) view c.requires.fits in
    let later = subst (λ (s : WorldState). s.world.last ≤ℤ moment) view c.requires.later in
    let quiet = subst (λ (s : WorldState). AreQuiet s.world.invocations moment) view c.requires.quiet in
    let new = subst (λ hs. fresh hs plan.targets ≡ plan.targets) fits.held fits.new in
    let valid = valid_included (world_of c.self.inside.table c.self.inside.finaliser c.self.inside.last) moment plan.from plan.targets
    c.self.invariant.valid fits.active new fits.there fits.elsewhere fits.few c.requires.moment later quiet in
    record {
      valid = subst (λ (es : List Edge). IsValid (record { invocations = rows; inclusions = es; last = moment }))
          (sym c.add_edges.ensures.roomier.graph.edges) valid;
      linked = record {
        states = c.add_edges.ensures.roomier.states ∙ c.self.invariant.linked.states;
        finals = c.add_edges.ensures.roomier.finals ∙ c.self.invariant.linked.finals;
      };
    }
