use Rattle.std.proofs.Common.{◌↔◌, IsTrue, List, ap, ◌∙◌, sym, set, subst}
use Rattle.names_realms.specs.declared.states.State.{State}
use Rattle.names_realms.specs.declared.states.State.TheVariants.{Finalizing}
use Rattle.finaliser.specs.Settling as finaliser
use Rattle.invocation_world.specs.Changes.{with_begun}
use Rattle.invocation_world.specs.States.{WorldState}
use Rattle.invocation_world.specs.World.{ReachesActive}
use Rattle.invocation_world.proofs.CodeFacts.{begun_states}
use Rattle.invocation_world.proofs.world.InvocationWorld.would_be_final.Goals as goal

pub returns-clause-answer : goal.returns-clause-answer
returns-clause-answer c = λ moment.
    let rows = c.self.inside.table.rows in
    let place = c.args.place in
    let edges = c.self.inside.finaliser.graph.edges in
    subst (λ (s : WorldState). IsTrue c.would_be_final.result ↔ (¬ ReachesActive (with_begun moment place s.world) place)) c.self.view_is
    (subst (λ (ss : List State). IsTrue c.would_be_final.result ↔ (¬ finaliser.ReachesActive edges ss place))
    (ap (λ (ss : List State). set ss place Finalizing) c.self.invariant.linked.states ∙ sym (begun_states moment rows place))
    c.would_be_final.ensures.answer)
