use Rattle.std.proofs.Common.{Bool, MatchBool, sym, subst}
use Rattle.std.specs.List.{Any}
use Rattle.invocations.specs.Due.{IsDue}
use Rattle.invocation_world.specs.Advancing.{AreQuiet, IsDueAt, IsQuiet}
use Rattle.invocation_world.specs.States.{WorldState}
use Rattle.invocation_world.proofs.CodeFacts.{due_or_quiet}
use Rattle.invocation_world.proofs.world.InvocationWorld.is_due.Goals as goal

pub returns-clause-due : goal.returns-clause-due
returns-clause-due c =
    let rows = c.self.inside.table.rows in
    let moment = c.args.moment in
    let told = due_or_quiet rows moment c.next_due.result c.next_due.ensures in
    subst (λ (s : WorldState). MatchBool c.is_some.result (IsDueAt s.world moment) (IsQuiet s.world moment)) c.self.view_is
    (subst (λ (b : Bool). MatchBool b (Any (IsDue moment) rows) (AreQuiet rows moment)) (sym c.is_some.ensures) told)
