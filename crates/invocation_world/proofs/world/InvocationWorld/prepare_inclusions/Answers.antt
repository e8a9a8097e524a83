use Rattle.std.proofs.Common.{◌≡◌, ◌<◌, List, length, min, IfOk, refl, sym, subst}
use Rattle.std.specs.List.{All}
use Rattle.names_realms.specs.declared.states.State.TheVariants.{Active}
use Rattle.inclusion_graph.specs.declared.edge.Edge.{Edge}
use Rattle.inclusion_graph.specs.Edges.{fresh, targets_of}
use Rattle.inclusion_graph.specs.Plans.{PlanState}
use Rattle.invocations.specs.Rows.{IsInState}
use Rattle.invocation_world.specs.Parts.{world_of}
use Rattle.invocation_world.specs.States.{WorldState}
use Rattle.invocation_world.proofs.CodeFacts.{fits_result}
use Rattle.invocation_world.proofs.world.InvocationWorld.prepare_inclusions.Goals as goal

pub returns-clause-fits : goal.returns-clause-fits
returns-clause-fits c =
    let table = c.self.inside.table in
    let new = c.prepare_edges.new.self in
    let state : WorldState = record {
      world = world_of table new c.self.inside.last;
      room = record { rows = min table.spare new.spare; inclusions = new.graph.spare_edges };
    } in
    let view = sym c.self.view_is in
    let active = subst (λ (s : WorldState). IsInState Active s.world.invocations c.args.place) view c.requires.active in
    let there = subst (λ (s : WorldState). All (λ t. t < length s.world.invocations) c.args.targets.now) view c.requires.there in
    let targets = subst (λ (es : List Edge). IfOk c.prepare_edges.result (λ (plan : PlanState). plan.targets ≡ fresh (targets_of es c.args.place) c.args.targets.now))
    (sym c.prepare_edges.ensures.roomier.graph.edges) c.prepare_edges.ensures.targets in
    fits_result state new.graph c.args.place c.args.targets.now c.prepare_edges.result active there refl refl c.prepare_edges.ensures.fits
    c.prepare_edges.ensures.from targets c.prepare_edges.ensures.elsewhere
