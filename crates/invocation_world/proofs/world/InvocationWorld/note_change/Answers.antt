use Rattle.std.proofs.Common.{◌≤ℤ◌, sym, subst}
use Rattle.invocation_world.specs.Advancing.{AreQuiet}
use Rattle.invocation_world.specs.States.{WorldState}
use Rattle.invocation_world.proofs.ValidFacts.{valid_later}
use Rattle.invocation_world.proofs.world.InvocationWorld.note_change.Goals as goal

pub invariant_of-self : goal.invariant_of-self
invariant_of-self c =
    let rows = c.self.inside.table.rows in
    let moment = c.args.moment in
    let view = sym c.self.view_is in
    let later = subst (λ (s : WorldState). s.world.last ≤ℤ moment) view c.requires.later in
    let quiet = subst (λ (s : WorldState). AreQuiet s.world.invocations moment) view c.requires.quiet in
    record {
      valid = valid_later rows c.self.inside.finaliser.graph.edges c.self.inside.last moment c.self.invariant.valid c.requires.moment later quiet;
      linked = c.self.invariant.linked;
    }
