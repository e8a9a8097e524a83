use Rattle.std.proofs.Common.{◌≤ℤ◌, sym, subst}
use Rattle.names_realms.specs.declared.states.State.TheVariants.{Active}
use Rattle.inclusion_graph.specs.Edges.{GraphState}
use Rattle.invocations.specs.Rows.{IsInState}
use Rattle.invocation_world.specs.Advancing.{AreQuiet}
use Rattle.invocation_world.specs.Parts.{world_of}
use Rattle.invocation_world.specs.States.{WorldState}
use Rattle.invocation_world.specs.World.{IsValid}
use Rattle.invocation_world.proofs.ValidFacts.{valid_retired}
use Rattle.invocation_world.proofs.world.InvocationWorld.retire.Goals as goal

pub invariant_of-self : goal.invariant_of-self
invariant_of-self c =
    let table = c.self.inside.table in
    let moment = c.args.moment in
    let view = sym c.self.view_is in
    let active = subst (λ (s : WorldState). IsInState Active s.world.invocations c.args.place) view c.requires.active in
    let later = subst (λ (s : WorldState). s.world.last ≤ℤ moment) view c.requires.later in
    let quiet = subst (λ (s : WorldState). AreQuiet s.world.invocations moment) view c.requires.quiet in
    let valid = valid_retired (world_of table c.self.inside.finaliser c.self.inside.last) moment c.args.place c.retire_row.new.table.rows
    c.self.invariant.valid c.requires.moment later quiet active c.retire_row.ensures.rows in
    record {
      valid = subst (λ (g : GraphState). IsValid (record { invocations = c.retire_row.new.table.rows; inclusions = g.edges; last = moment }))
          (sym c.retire_row.ensures.parts.graph) valid;
      linked = c.retire_row.ensures.parts.linked;
    }
